-- The lines of entries, and what stands behind them that begins as no entry does, tell the entries.
use Rattle.std.proofs.Common.{◌≡◌, ℕ, suc, ◌<◌, List, [], ◌∷◌, ◌++◌, drop, codes, refl, ap, subst, ◌∙◌, sym, append_assoc, arith}
use Rattle.std.specs.Fmt.{decimal}
use Rattle.std.specs.List.{AllByRecursion}
use Rattle.std.proofs.lemmas.List.Elements.{All-head, All-tail}
use Rattle.volume_model.specs.declared.call.Call.{Call}
use Rattle.volume_model.specs.declared.call.Reply.{Reply}
use Rattle.volume_model.specs.declared.entry.Answer.{Answer}
use Rattle.volume_model.specs.declared.entry.Entry.{Entry}
use Rattle.volume_model.specs.declared.entry.Entry.TheVariants as entry
use Rattle.volume_model.specs.declared.mark.Mark.{Mark}
use Rattle.run_report.specs.Lines.{call_text, reply_text, mark_text, entry_line}
use Rattle.run_report.specs.Report.{journal_lines}
use Rattle.report_laws.specs.Fits.{AnswerFits, EntryFits, AllFit}
use Rattle.report_laws.proofs.Begins.{BeginsLater, BeginsUnopened}
use Rattle.report_laws.proofs.Words.{cut, space, IsWord-decimal, decimal_low}
use Rattle.report_laws.proofs.Fields.{AreOne, one_by}
use Rattle.report_laws.proofs.Fields as field
use Rattle.report_laws.proofs.CallTells.{same_call}
use Rattle.report_laws.proofs.ReplyTells.{same_reply}
use Rattle.report_laws.proofs.MarkTells.{same_mark}

-- what is behind the place in the line of an entry, and behind the line
behind : Entry → List ℕ → List ℕ
behind (entry.Answer a) xs =
    decimal a.saw ++ 32 ∷ (decimal a.stream ++ 32 ∷ (decimal a.index ++ 32 ∷ (call_text a.call ++ 32 ∷ (reply_text a.reply ++ 10 ∷ xs))))
behind (entry.Mark m) xs = codes "mark " ++ mark_text m ++ 10 ∷ xs

line_words : (place : ℕ) (e : Entry) (xs : List ℕ) → entry_line place e ++ xs ≡ decimal place ++ 32 ∷ behind e xs
unfolding behind
line_words place (entry.Answer a) xs = simp append_assoc
line_words place (entry.Mark m) xs = simp append_assoc

same_answer : (a b : Answer) (xs ys : List ℕ) → AnswerFits a → AnswerFits b
    → behind (entry.Answer a) xs ≡ behind (entry.Answer b) ys → AreOne a b xs ys
unfolding behind
same_answer a b xs ys p q e =
    let saw = field.number 32 space _ _ a.saw b.saw p.saw q.saw e in
    let stream = field.number 32 space _ _ a.stream b.stream p.stream q.stream saw.rest in
    let index = field.number 32 space _ _ a.index b.index p.index q.index stream.rest in
    let asked = same_call a.call b.call _ _ p.call q.call index.rest in
    let told = same_reply a.reply b.reply xs ys p.reply q.reply asked.rest in
    record { same = same_parts asked.same told.same index.same saw.same stream.same; rest = told.rest }
  where
    answer_of : Call → Reply → ℕ → ℕ → ℕ → Answer
    answer_of c r index saw stream = record { call = c; reply = r; index = index; saw = saw; stream = stream }

    same_parts : {c d : Call} {r s : Reply} {i j k l m n : ℕ} → c ≡ d → r ≡ s → i ≡ j → k ≡ l → m ≡ n
        → answer_of c r i k m ≡ answer_of d s j l n
    same_parts c r i k m = cc

-- a number does not begin so
no_number : (word xs rest : List ℕ) → AllByRecursion (λ b. b < 97) word → BeginsLater rest → word ++ 32 ∷ xs ≡ rest → ⊥
no_number [] xs [] low later e = cc
no_number [] xs (b ∷ bs) low later e = let same : 32 ≡ b = cc in omega arith
no_number (c ∷ cs) xs [] low later e = cc
no_number (c ∷ cs) xs (b ∷ bs) low later e = let same : c ≡ b = cc in omega (arith, low.0)

-- an answer's line is no mark's
no_mark : (a : Answer) (m : Mark) (xs ys : List ℕ) → behind (entry.Answer a) xs ≡ behind (entry.Mark m) ys → ⊥
unfolding behind
no_mark a m xs ys e = no_number (decimal a.saw) _ (codes "mark " ++ mark_text m ++ 10 ∷ ys) (decimal_low a.saw) (omega arith) e

same_behind : (e f : Entry) (xs ys : List ℕ) → EntryFits e → EntryFits f → behind e xs ≡ behind f ys
    → AreOne e f xs ys
unfolding behind
same_behind (entry.Answer a) (entry.Answer b) xs ys p q e = one_by entry.Answer (same_answer a b xs ys p q e)
same_behind (entry.Answer a) (entry.Mark k) xs ys p q e = absurd (no_mark a k xs ys e)
same_behind (entry.Mark l) (entry.Answer b) xs ys p q e = absurd (no_mark b l ys xs (sym e))
same_behind (entry.Mark l) (entry.Mark k) xs ys p q e = one_by entry.Mark (same_mark l k xs ys p q (ap (drop 5) e))

same_entry : (place : ℕ) (e f : Entry) (xs ys : List ℕ) → EntryFits e → EntryFits f
    → entry_line place e ++ xs ≡ entry_line place f ++ ys → AreOne e f xs ys
same_entry place e f xs ys p q same =
    let text = sym (line_words place e xs) ∙ same ∙ line_words place f ys in
    let c = cut (decimal place) (decimal place) 32 32 _ _ (IsWord-decimal place) (IsWord-decimal place) space space text in
    same_behind e f xs ys p q c.rest

no_line : (place : ℕ) (e : Entry) (xs rest : List ℕ) → BeginsLater rest → entry_line place e ++ xs ≡ rest → ⊥
no_line place e xs rest later same = no_number (decimal place) _ rest (decimal_low place) later (sym (line_words place e xs) ∙ same)

pub same_journal : (place : ℕ) (es fs : List Entry) (xs ys : List ℕ) → AllFit es → AllFit fs
    → BeginsLater xs → BeginsLater ys → journal_lines place es ++ xs ≡ journal_lines place fs ++ ys → es ≡ fs
same_journal place [] [] xs ys p q x y same = refl
same_journal place [] (f ∷ fs) xs ys p q x y same =
    absurd (no_line place f _ xs x (sym (append_assoc (entry_line place f) _ ys) ∙ sym same))
same_journal place (e ∷ es) [] xs ys p q x y same =
    absurd (no_line place e _ ys y (sym (append_assoc (entry_line place e) _ xs) ∙ same))
same_journal place (e ∷ es) (f ∷ fs) xs ys p q x y same =
    let text = sym (append_assoc (entry_line place e) _ xs) ∙ same ∙ append_assoc (entry_line place f) _ ys in
    let first = same_entry place e f _ _ (All-head EntryFits e es p) (All-head EntryFits f fs q) text in
    let more = same_journal (suc place) es fs xs ys (All-tail EntryFits e es p) (All-tail EntryFits f fs q) x y first.rest in
    let front : e ≡ f = first.same in
    cc

-- a number begins as no line of an opening does
number_unopened : (word xs : List ℕ) → AllByRecursion (λ b. b < 97) word → BeginsUnopened (word ++ 32 ∷ xs)
number_unopened [] xs low = λ e. omega arith
number_unopened (c ∷ cs) xs low = λ e. omega (arith, low.0, e)

pub unopened-journal : (place : ℕ) (es : List Entry) (xs : List ℕ) → BeginsUnopened xs → BeginsUnopened (journal_lines place es ++ xs)
unopened-journal place [] xs begins = begins
unopened-journal place (e ∷ es) xs begins =
    subst BeginsUnopened (sym (append_assoc (entry_line place e) _ xs ∙ line_words place e _))
    (number_unopened (decimal place) _ (decimal_low place))
