-- Each snapshot of a replica, and of the volume that the journal tells, has a copy as long as the disk.
use Rattle.std.proofs.Common.{◌≡◌, ◌≢◌, ℕ, Bool, true, false, not, cond, List, [], ◌∷◌, ◌++◌, length, map, refl, sym, ap, subst, ◌∙◌}
use Rattle.std.specs.List.{All}
use Rattle.std.specs.Str.{bytes_eq}
use Rattle.std.proofs.lemmas.Bool.{false≢true}
use Rattle.std.proofs.lemmas.List.Elements.{All-head, All-tail}
use Rattle.volume_model.specs.declared.entry.Entry.{Entry}
use Rattle.volume_model.specs.Copies.{has_copy, HasCopies, IsCopyOf}
use Rattle.volume_model.specs.History.{Spot, IsLegal}
use Rattle.volume_model.specs.Names.{names_in}
use Rattle.volume_model.specs.PlainState.{copy_of}
use Rattle.volume_model.specs.Replay.{replay}
use Rattle.volume_model.specs.Snapshots.{is_live}
use Rattle.volume_model.proofs.CopyLemmas.{stay_whole}
use Rattle.volume_model.proofs.KeptCopies.{keeps_copy}
use Rattle.replica_node.specs.Node.{Kept, Node}
use Rattle.replica_node.specs.Volume.{copies_in, volume_of_node}
use Rattle.replica_node.proofs.VolumeLemmas.{snap}
use Rattle.volume_core.specs.State.{State, opening_of, told_of}
use Rattle.volume_core.specs.Sound.{IsSound}
use Rattle.volume_core.specs.Streams.{IsInTurn, Origin, origin_of, MayGo}

-- a copy of the name, of so many bytes
abbrev HasLong : ℕ → List Kept → List ℕ → Type 0
HasLong n ks name = (has_copy (copies_in ks) name ≡ true) × (length (copy_of (copies_in ks) name) ≡ n)

-- of layers that are all as long, each that can be used has one
live_long : (n : ℕ) (ks : List Kept) (name : List ℕ) → is_live (map snap ks) name ≡ true
    → All (λ (k : Kept). length k.disk ≡ n) ks → HasLong n ks name
live_long n [] name live long = absurd (false≢true live)
live_long n (k ∷ ks) name live long = by (bytes_eq name k.meta.name) k.meta.marked refl refl live
    (λ l. live_long n ks name l (All-tail (λ (x : Kept). length x.disk ≡ n) k ks long))
  where
    by : (same marked : Bool) → bytes_eq name k.meta.name ≡ same → k.meta.marked ≡ marked
        → cond same (not marked) (is_live (map snap ks) name) ≡ true
        → (is_live (map snap ks) name ≡ true → HasLong n ks name) → HasLong n (k ∷ ks) name
    by true true e f l more = absurd (false≢true l)
    by true false e f l more = rw (f, e) (refl, All-head (λ (x : Kept). length x.disk ≡ n) k ks long)
    by false true e f l more = rw f (more l)
    by false false e f l more = rw (f, e) (more l)

-- so has each of a replica, whose layers are as long as its head
pub node_copies : (n : Node) → All (λ (k : Kept). length k.disk ≡ length n.disk) n.layers
    → HasCopies (length n.disk) (volume_of_node n)
node_copies n long = record {
  disk = refl;
  there = λ name live. (live_long (length n.disk) n.layers name live long).0;
  copy = λ name live. (live_long (length n.disk) n.layers name live long).1;
}

-- and so has each that the journal tells
pub told_copies : (s : State) → IsSound s → HasCopies s.size (told_of s).volume
told_copies s ok =
    let o = opening_of s in
    let whole = stay_whole o (length o.state.volume.disk) s.book.entries ok.on.told.legal ok.on.opened.named ok.on.opened.copies in
    subst (λ k. HasCopies k (told_of s).volume) (sym whole.disk ∙ ok.disk) whole

-- ---- what is kept

-- Each snapshot that can be used keeps its copy in a step of a stream while another's command has the maintenance turn:
-- that stream alone can remove one.
pub keeps_copies : (s s2 : State) (n m : ℕ) → IsSound s → MayGo n s s2 → m ≢ n → IsInTurn m s
    → (name disk : List ℕ) → IsCopyOf (told_of s).volume name disk → IsCopyOf (told_of s2).volume name disk
keeps_copies s s2 n m ok may apart turn name disk is =
    let o = opening_of s in
    let es = may.added.0 in
    let same : opening_of s2 ≡ o = opened_so s2 s may.origin in
    let legal : IsLegal o (s.book.entries ++ es) = subst (λ (q : Spot). IsLegal q (s.book.entries ++ es)) same
    (subst (IsLegal (opening_of s2)) may.added.1 may.sound.on.told.legal) in
    let kept = keeps_copy o s.book.entries es name disk ok.on.told.legal legal ok.on.opened.named (may.removes m apart turn name) is in
    subst (λ (q : Spot). IsCopyOf (replay q.state s2.book.entries).volume name disk) (sym same)
    (subst (λ (l : List Entry). IsCopyOf (replay o.state l).volume name disk) (sym may.added.1) kept)
  where
    opened_so : (t u : State) → origin_of t ≡ origin_of u → opening_of t ≡ opening_of u
    opened_so t u e = ap (λ (x : Origin). record {
      state = record { volume = volume_of_node x.first; used = names_in x.opening.names };
      modes = x.opening.modes;
    }) e
