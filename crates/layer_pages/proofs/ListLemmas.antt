-- One page more of a list of pages.
use Rattle.std.proofs.Common.{◌≡◌, ⊎_elim, ℕ, ◌+◌, ◌*◌, ◌<◌, ◌≤◌, List, [], ◌∷◌, ◌++◌, length, get_or}
use Rattle.std.proofs.Common.{sym, ap, subst, ◌∙◌, arith, length-append}
use Rattle.std.proofs.lemmas.Bool.{cases_lt, cases_eq}
use Rattle.std.proofs.lemmas.List.{get_or_append_left}
use Rattle.std.proofs.Math.Seq.{get_or-append_seam}
use Rattle.volume_model.specs.Snapshots.{Snapshot}
use Rattle.replica_node.specs.Node.{Node}
use Rattle.layer_pages.specs.Pages.{OneHas, NoneHas, ArePagesOf}

module _ (xs : List ℕ) (x : ℕ) where
  pub before_last : (i : ℕ) → i < length xs → get_or (xs ++ x ∷ []) i 0 ≡ get_or xs i 0
  before_last i less = get_or_append_left xs (x ∷ []) 0 i less

  at_last : (i : ℕ) → length xs ≤ i → i < length (xs ++ x ∷ []) → get_or (xs ++ x ∷ []) i 0 ≡ x
  at_last i past less =
      let is : i ≡ length xs = omega (arith, past, less, length-append xs (x ∷ [])) in
      ap (λ n. get_or (xs ++ x ∷ []) n 0) is ∙ get_or-append_seam xs x [] 0

  -- what is true of each of a list and of one more
  pub each_more : (P : ℕ → Type 0) → ((i : ℕ) → i < length xs → P (get_or xs i 0)) → P x
      → (i : ℕ) → i < length (xs ++ x ∷ []) → P (get_or (xs ++ x ∷ []) i 0)
  each_more P had here i less =
      ⊎_elim (λ before. subst P (sym (before_last i before)) (had i before))
      (λ past. subst P (sym (at_last i past less)) here) (cases_lt i (length xs))

-- ---- pages

module _ (node : Node) (chain : List Snapshot) where
  pub no_pages : ArePagesOf node chain 0 []
  no_pages = record {
    rising = λ i j less within. absurd (omega (arith, within));
    within = λ i less. absurd (omega (arith, less));
    listed = λ i less. absurd (omega (arith, less));
    others = λ page less. absurd (omega (arith, less));
  }

  module _ (pages : List ℕ) (page : ℕ) (had : ArePagesOf node chain (page * 2097152) pages) where
    -- the page is left out
    pub page_passed : NoneHas node chain page → ArePagesOf node chain ((page + 1) * 2097152) pages
    page_passed none = record {
      rising = had.rising;
      within = λ i less. let before = had.within i less in omega (arith, before);
      listed = had.listed;
      others = λ other less free. ⊎_elim
          (λ same. subst (NoneHas node chain) (sym same) none)
          (λ apart. had.others other (omega (arith, less, apart)) free)
          (cases_eq other page);
    }

    -- it is put at the end
    pub page_listed : OneHas node chain page → ArePagesOf node chain ((page + 1) * 2097152) (pages ++ page ∷ [])
    page_listed one = record {
      rising = rising;
      within = each_more pages page (λ p. p * 2097152 < (page + 1) * 2097152)
          (λ i less. let before = had.within i less in omega (arith, before)) (omega arith);
      listed = each_more pages page (OneHas node chain) had.listed one;
      others = λ other less free. ⊎_elim
          (λ same. absurd (free (length pages) (omega (arith, longer)) (get_or-append_seam pages page [] 0 ∙ sym same)))
          (λ apart. had.others other (omega (arith, less, apart))
          (λ i within e. free i (omega (arith, within, longer)) (before_last pages page i within ∙ e)))
          (cases_eq other page);
    }
      where
        longer : length (pages ++ page ∷ []) ≡ length pages + 1
        longer = length-append pages (page ∷ [])

        rising : (i j : ℕ) → i < j → j < length (pages ++ page ∷ []) → get_or (pages ++ page ∷ []) i 0 < get_or (pages ++ page ∷ []) j 0
        rising i j less within = ⊎_elim
            (λ before. let rises = had.rising i j less before in
            omega (arith, rises, before_last pages page i (omega (arith, less, before)), before_last pages page j before))
            (λ past. let inside : i < length pages = omega (arith, less, within, longer) in let end = had.within i inside in
            omega (arith, end, before_last pages page i inside, at_last pages page j past within))
            (cases_lt j (length pages))

  -- so many pages are all of the disk
  pub all_pages : (count size : ℕ) (pages : List ℕ) → count * 2097152 ≡ size → ArePagesOf node chain (count * 2097152) pages
      → ArePagesOf node chain size pages
  all_pages count size pages whole had = subst (λ end. ArePagesOf node chain end pages) whole had
