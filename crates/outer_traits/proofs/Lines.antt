-- What lines tell, carry after carry, and what a wiring tells that notes each line in front of those before it.
use Rattle.std.proofs.Common.{◌≡◌, ℕ, ◌+◌, ◌<◌, length, List, [], ◌∷◌, ◌++◌, Option, None, Some, sym, ap, ◌∙◌}
use Rattle.std.proofs.Common.{append_assoc, append-nil, add-zero, map, subst, inl, inr, arith}
use Rattle.std.specs.Prelude.{slice_index_or}
use Rattle.std.proofs.lemmas.Bool.{cases_lt}
use Rattle.std.proofs.lemmas.Grind.{common_steps}
use Rattle.std.proofs.lemmas.List.{map-append, length-map}
use Rattle.outer_traits.specs.declared.ends.Ends.{Ends}
use Rattle.outer_traits.specs.Lines.{AreLinesOf, TellsMore, Records, RecordsOf}

-- what adds nothing tells the same
pub TellsMore-nil : {T : Type 0} (told : Option (List T)) → TellsMore told told []
TellsMore-nil None = tt
TellsMore-nil (Some all) = sym (append-nil all)

-- what is told, one after another
pub TellsMore-trans : {T : Type 0} (s t u : Option (List T)) (xs ys : List T) → TellsMore s t xs → TellsMore t u ys
    → TellsMore s u (xs ++ ys)
TellsMore-trans s t None xs ys p q = tt
TellsMore-trans s None (Some u) xs ys p q = absurd q
TellsMore-trans None (Some t) (Some u) xs ys p q = absurd p
TellsMore-trans (Some s) (Some t) (Some u) xs ys p q = q ∙ ap (λ l. l ++ ys) p ∙ append_assoc s xs ys

-- a line more was taken back
pub RecordsOf-push : (T : Type 0) (f g h : ℕ → ℕ → T) (worker : ℕ) (told : List T) (e : Ends) (t : T)
    → RecordsOf f g worker told → Records g h e t → e ≡ record { worker = worker; replica = length told }
    → RecordsOf f h worker (told ++ t ∷ [])
RecordsOf-push T f g h worker told e t p q is = record {
  here = λ k d below. elim (cases_lt k (length told)) [ inl earlier ↦ before k d earlier | inr from ↦ last k d (omega (arith, longer)) ];
  others = λ w k other. q.others w k (λ both. other (both.0 ∙ at_worker, omega (arith, longer, both.1, at_replica)))
      ∙ p.others w k (λ both. other (both.0, omega (arith, longer, both.1)));
}
  where
    at_worker : e.worker ≡ worker
    at_worker = ap (λ (x : Ends). x.worker) is

    at_replica : e.replica ≡ length told
    at_replica = ap (λ (x : Ends). x.replica) is

    longer : length (told ++ t ∷ []) ≡ length told + 1
    longer = grind (arith, common_steps)

    before : (k : ℕ) (d : T) → k < length told → h worker k ≡ slice_index_or (told ++ t ∷ []) k d
    before k d earlier =
        let same : slice_index_or (told ++ t ∷ []) k d ≡ slice_index_or told k d = grind (arith, common_steps) in
        q.others worker k (λ both. omega (arith, both.1, at_replica)) ∙ p.here k d earlier ∙ sym same

    last : (k : ℕ) (d : T) → k ≡ length told → h worker k ≡ slice_index_or (told ++ t ∷ []) k d
    last k d here =
        let at_end : slice_index_or (told ++ t ∷ []) k d ≡ t = grind (arith, common_steps) in
        ap (λ w. h w k) (sym at_worker) ∙ ap (h e.worker) (here ∙ sym at_replica) ∙ q.here ∙ sym at_end

-- each line is the one to the replica that it stands for
pub AreLinesOf-at : (worker first : ℕ) (es : List Ends) (e : Ends) (rest : List Ends)
    → AreLinesOf worker first (es ++ e ∷ rest) → e ≡ record { worker = worker; replica = first + length es }
AreLinesOf-at worker first [] e rest h = rw add-zero h.0
AreLinesOf-at worker first (x ∷ es) e rest h =
    let later : e ≡ record { worker = worker; replica = first + 1 + length es } = AreLinesOf-at worker (first + 1) es e rest h.1 in
    let same : first + 1 + length es ≡ first + length (x ∷ es) = omega arith in
    rw (← same) later

-- one line more of a list of lines is noted
pub RecordsOf-step : (T L : Type 0) (ends : L → Ends) (told : L → T) (f g h : ℕ → ℕ → T) (worker : ℕ) (lines noted : List L)
    (line : L) (rest : List L) → lines ≡ (noted ++ line ∷ []) ++ rest → AreLinesOf worker 0 (map ends lines)
    → RecordsOf f g worker (map told noted) → Records g h (ends line) (told line)
    → RecordsOf f h worker (map told (noted ++ line ∷ []))
RecordsOf-step T L ends told f g h worker lines noted line rest cut lined p q =
    rw (map-append told noted (line ∷ [])) (RecordsOf-push T f g h worker (map told noted) (ends line) (told line) p q is)
  where
    parts : map ends lines ≡ map ends noted ++ ends line ∷ map ends rest
    parts = ap (map ends) cut ∙ map-append ends (noted ++ line ∷ []) rest
        ∙ ap (λ l. l ++ map ends rest) (map-append ends noted (line ∷ []))
        ∙ append_assoc (map ends noted) (ends line ∷ []) (map ends rest)

    is : ends line ≡ record { worker = worker; replica = length (map told noted) }
    is =
        let at : ends line ≡ record { worker = worker; replica = 0 + length (map ends noted) } =
        AreLinesOf-at worker 0 (map ends noted) (ends line) (map ends rest) (subst (AreLinesOf worker 0) parts lined) in
        let same : 0 + length (map ends noted) ≡ length (map told noted) = omega (arith, length-map noted ends, length-map noted told) in
        rw (← same) at

-- the cut between lines that were noted and those that are left, one line further
pub cut_further : {L : Type 0} (lines noted left : List L) (line : L) (rest : List L) → lines ≡ noted ++ left
    → left ≡ line ∷ rest → lines ≡ (noted ++ line ∷ []) ++ rest
cut_further lines noted left line rest all next = all ∙ ap (λ l. noted ++ l) next ∙ sym (append_assoc noted (line ∷ []) rest)
