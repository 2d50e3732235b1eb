-- The lines of an opening, and what stands behind them that begins as none of them does, tell the reasons.
use Rattle.std.proofs.Common.{◌≡◌, ◌≢◌, ℕ, suc, List, [], ◌∷◌, ◌++◌, get_or, drop, codes, Option, Some, None, refl, sym, ap, ◌∙◌}
use Rattle.std.proofs.Common.{append_assoc, arith}
use Rattle.std.proofs.lemmas.List.{append_cancel_left}
use Rattle.std.proofs.lemmas.List.Elements.{All-head, All-tail}
use Rattle.run_report.specs.Lines.{word, replica_text, opened_text, opening_line}
use Rattle.run_report.specs.Report.{opening_lines}
use Rattle.report_laws.specs.Reasons.{IsOneLine, TellsOneLine, TellOneLine}
use Rattle.report_laws.proofs.Begins.{BeginsUnopened}
use Rattle.report_laws.proofs.Fields.{AreOne, one_by}

-- two texts without a line feed, each with one behind it
same_line : (us vs xs ys : List ℕ) → IsOneLine us → IsOneLine vs → us ++ 10 ∷ xs ≡ vs ++ 10 ∷ ys → AreOne us vs xs ys
same_line [] [] xs ys p q e = record { same = refl; rest = cc }
same_line [] (v ∷ vs) xs ys p q e = let same : v ≡ 10 = cc in absurd (All-head (λ b. b ≢ 10) v vs q same)
same_line (u ∷ us) [] xs ys p q e = let same : u ≡ 10 = cc in absurd (All-head (λ b. b ≢ 10) u us p same)
same_line (u ∷ us) (v ∷ vs) xs ys p q e =
    let front : u ≡ v = cc in
    let more : us ++ 10 ∷ xs ≡ vs ++ 10 ∷ ys = cc in
    let one = same_line us vs xs ys (All-tail (λ b. b ≢ 10) u us p) (All-tail (λ b. b ≢ 10) v vs q) more in
    let back : us ≡ vs = one.same in
    record { same = cc; rest = one.rest }

same_reason : (a b : Option (List ℕ)) (xs ys : List ℕ) → TellsOneLine a → TellsOneLine b
    → opened_text a ++ 10 ∷ xs ≡ opened_text b ++ 10 ∷ ys → AreOne a b xs ys
same_reason None None xs ys p q e = record { same = refl; rest = ap (drop 3) e }
same_reason None (Some v) xs ys p q e = absurd (omega (arith, ap (λ l. get_or l 0 0) e))
same_reason (Some u) None xs ys p q e = absurd (omega (arith, ap (λ l. get_or l 0 0) e))
same_reason (Some u) (Some v) xs ys p q e = one_by Some (same_line u v xs ys p q (ap (drop 4) e))

-- what stands before the mode in the line of an opening
line_front : ℕ → List ℕ
line_front r = codes "open " ++ word (replica_text r)

line_words : (r : ℕ) (why : Option (List ℕ)) (xs : List ℕ) → opening_line r why ++ xs ≡ line_front r ++ (opened_text why ++ 10 ∷ xs)
unfolding line_front
line_words r why xs = simp append_assoc

same_opening : (r : ℕ) (a b : Option (List ℕ)) (xs ys : List ℕ) → TellsOneLine a → TellsOneLine b
    → opening_line r a ++ xs ≡ opening_line r b ++ ys → AreOne a b xs ys
same_opening r a b xs ys p q e =
    same_reason a b xs ys p q (append_cancel_left (line_front r) _ _ (sym (line_words r a xs) ∙ e ∙ line_words r b ys))

no_opening : (r : ℕ) (why : Option (List ℕ)) (xs rest : List ℕ) → BeginsUnopened rest → opening_line r why ++ xs ≡ rest → ⊥
no_opening r why xs [] begins e = cc
no_opening r why xs (b ∷ bs) begins e = let same : b ≡ 111 = cc in begins same

pub same_openings : (r : ℕ) (us vs : List (Option (List ℕ))) (xs ys : List ℕ) → TellOneLine us → TellOneLine vs
    → BeginsUnopened xs → BeginsUnopened ys → opening_lines r us ++ xs ≡ opening_lines r vs ++ ys → AreOne us vs xs ys
same_openings r [] [] xs ys p q x y e = record { same = refl; rest = e }
same_openings r [] (v ∷ vs) xs ys p q x y e =
    absurd (no_opening r v _ xs x (sym (append_assoc (opening_line r v) _ ys) ∙ sym e))
same_openings r (u ∷ us) [] xs ys p q x y e =
    absurd (no_opening r u _ ys y (sym (append_assoc (opening_line r u) _ xs) ∙ e))
same_openings r (u ∷ us) (v ∷ vs) xs ys p q x y e =
    let text = sym (append_assoc (opening_line r u) _ xs) ∙ e ∙ append_assoc (opening_line r v) _ ys in
    let first = same_opening r u v _ _ (All-head TellsOneLine u us p) (All-head TellsOneLine v vs q) text in
    let more = same_openings (suc r) us vs xs ys (All-tail TellsOneLine u us p) (All-tail TellsOneLine v vs q) x y first.rest in
    let front : u ≡ v = first.same in
    let back : us ≡ vs = more.same in
    record { same = cc; rest = more.rest }
