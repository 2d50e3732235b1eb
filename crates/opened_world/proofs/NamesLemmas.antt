-- Which of the names that are found were used, and which can be: those of the disk's snapshots, and those not marked.
use Rattle.std.proofs.Common.{◌≡◌, ℕ, Bool, true, false, cond, ◌||◌, not, List, [], ◌∷◌, refl, ap, ◌∙◌}
use Rattle.std.specs.Str.{bytes_eq}
use Rattle.std.proofs.lemmas.Bool.{cond-false}
use Rattle.std.proofs.lemmas.Slice.Eq.{bytes_eq-Decides}
use Rattle.volume_model.specs.declared.names.UsedName.{UsedName}
use Rattle.volume_model.specs.Names.{is_used_in, is_live_in, has_name, NamesOnce}
use Rattle.volume_model.specs.Snapshots.{Snapshot, is_live}
use Rattle.journal_book.specs.Taken.{with_found}
use Rattle.opened_world.specs.Names.{names_of}

-- ---- one name more

-- it was used, and so were those before
used_found : (ns : List UsedName) (n q : List ℕ) (m : Bool) → is_used_in (with_found ns n m) q ≡ (bytes_eq q n || is_used_in ns q)
used_found ns n q m = go (is_used_in ns n) refl
  where
    same : (b : Bool) → bytes_eq q n ≡ b → is_used_in ns n ≡ true → is_used_in ns q ≡ (b || is_used_in ns q)
    same true is there = ap (is_used_in ns) ((bytes_eq-Decides q n).0 is) ∙ there
    same false is there = refl

    go : (there : Bool) → is_used_in ns n ≡ there
        → is_used_in (cond there ns (record { name = n; marked = m } ∷ ns)) q ≡ (bytes_eq q n || is_used_in ns q)
    go true e = same (bytes_eq q n) refl e
    go false e = refl

-- ---- the names of the disk

pub used_disk : (ss : List Snapshot) (q : List ℕ) → is_used_in (names_of ss) q ≡ has_name ss q
used_disk [] q = refl
used_disk (s ∷ ss) q = used_found (names_of ss) s.name q s.marked ∙ ap (λ b. bytes_eq q s.name || b) (used_disk ss q)

pub live_disk : (ss : List Snapshot) (q : List ℕ) → NamesOnce ss → is_live_in (names_of ss) q ≡ is_live ss q
live_disk [] q once = refl
live_disk (s ∷ ss) q once =
    ap (λ l. is_live_in l q)
    (cond-false (is_used_in (names_of ss) s.name) (names_of ss) (record { name = s.name; marked = s.marked } ∷ names_of ss)
    (used_disk ss s.name ∙ once.0))
    ∙ ap (cond (bytes_eq q s.name) (not s.marked)) (live_disk ss q once.1)
