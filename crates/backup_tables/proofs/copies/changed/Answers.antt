use Rattle.std.proofs.Common.{◌≡◌, ◌+◌, [], ◌∷◌, ◌++◌, ℕ, List, sym, subst, rules}
use Rattle.backup_units.specs.Backups.{page_at}
use Rattle.backup_tables.proofs.ChangedLemmas.{AreBelow, AreSame, below_pushed, below_next, same_pushed, same_next}
use Rattle.backup_tables.proofs.copies.changed.Goals as goal
use Rattle.backup_tables.proofs.copies.changed.Goals.{then-not-is_same+in_ok-push, else-not-is_same}

pub loop-page-preserved : goal.loop-page-preserved
loop-page-preserved c =
    let disk = c.args.disk.now in
    let old = c.args.old.now in
    let before = c.loop-page.pages.items in
    let page = c.loop-page.page in
    let so_far = c.loop-page.invariant in
    elim c.if-not-is_same.branch [
      | then-not-is_same+in_ok-push w ↦
          (let items : c.if-not-is_same.pages.items ≡ before ++ page ∷ [] = search rules in
          record {
            within = subst (λ (xs : List ℕ). AreBelow xs (page + 1)) (sym items) (below_pushed before page so_far.within);
            same = subst (λ (xs : List ℕ). AreSame disk old xs (page + 1)) (sym items) (same_pushed disk old before page so_far.same);
          })
      | else-not-is_same w ↦
          (let items : c.if-not-is_same.pages.items ≡ before = search rules in
          let here : page_at disk page ≡ page_at old page = search rules in
          record {
            within = subst (λ (xs : List ℕ). AreBelow xs (page + 1)) (sym items) (below_next before page so_far.within);
            same = subst (λ (xs : List ℕ). AreSame disk old xs (page + 1)) (sym items) (same_next disk old before page here so_far.same);
          })
    ]
