-- Entries that come one after another.
use Rattle.std.proofs.Common.{◌≡◌, List, [], ◌++◌, Option, Some, None, sym, refl, ap, ◌∙◌, append-nil, append_assoc}
use Rattle.std.proofs.lemmas.List.{map-append}
use Rattle.volume_model.specs.declared.entry.Entry.{Entry}
use Rattle.volume_model.proofs.ServedLemmas.{behind-append}
use Rattle.stream_steps.specs.Mine.{Placed, Mine, OwnCall, Log, entries_in, longer, with_entries, with_more, with_running}

pub longer_none : (log : Option Log) → longer log [] ≡ log
longer_none None = refl
longer_none (Some l) = λ i. Some (record { spot = l.spot; entries = append-nil l.entries i })

pub longer_twice : (log : Option Log) (xs ys : List Entry) → longer (longer log xs) ys ≡ longer log (xs ++ ys)
longer_twice None xs ys = refl
longer_twice (Some l) xs ys = λ i. Some (record { spot = sym (behind-append l.spot xs ys) i; entries = append_assoc l.entries xs ys i })

pub entries-append : (xs ys : List Placed) → entries_in (xs ++ ys) ≡ entries_in xs ++ entries_in ys
entries-append xs ys = map-append (λ (p : Placed). p.entry) xs ys

pub entries_none : (m : Mine) (os : List OwnCall) → with_entries m [] [] os ≡ with_running m os
entries_none m os = λ i. record {
  stream = m.stream;
  replicas = m.replicas;
  entries = append-nil m.entries i;
  running =
      os;
  log = longer_none m.log i;
}

pub entries_twice : (m : Mine) (xs ys : List Placed) (es fs : List Entry) (os ps : List OwnCall)
    → with_entries (with_entries m xs es os) ys fs ps ≡ with_entries m (xs ++ ys) (es ++ fs) ps
entries_twice m xs ys es fs os ps =
    λ i. record {
      stream = m.stream;
      replicas = m.replicas;
      entries = append_assoc m.entries xs ys i;
      running = ps;
      log =
          longer_twice m.log es fs i;
    }

pub more_none : (m : Mine) (os : List OwnCall) → with_more m [] os ≡ with_running m os
more_none m os = entries_none m os

pub more_twice : (m : Mine) (xs ys : List Placed) (os ps : List OwnCall) → with_more (with_more m xs os) ys ps ≡ with_more m (xs ++ ys) ps
more_twice m xs ys os ps =
    entries_twice m xs ys (entries_in xs) (entries_in ys) os ps ∙ ap (λ es. with_entries m (xs ++ ys) es ps) (sym (entries-append xs ys))
