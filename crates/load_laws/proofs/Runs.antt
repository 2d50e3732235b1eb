-- A run of a load: frames that are answered as a disk answers them, and between them the control stream's entries.
use Rattle.std.proofs.Common.{◌≡◌, ◌⊎◌, ℕ, List, [], ◌∷◌, ◌++◌, refl, sym, subst, inl, inr, ⊎_elim}
use Rattle.std.proofs.lemmas.Bool.{cases_order}
use Rattle.std.proofs.lemmas.List.{append-nil, append_assoc}
use Rattle.volume_model.specs.declared.entry.Answer.{Answer}
use Rattle.volume_model.specs.declared.entry.Entry.{Entry}
use Rattle.volume_model.specs.declared.entry.Entry.TheVariants as entry
use Rattle.volume_model.specs.Standing.{StandFrom}
use Rattle.volume_model.specs.Rebuilds.{StandsBehindFall}
use Rattle.volume_model.specs.History.{MayStand, LegalAfter}
use Rattle.load_laws.specs.Load.{fresh}
use Rattle.load_laws.proofs.Phases.{Phase, Begins, Taken, Falls, Fallen, Opened, Promoted, Rebuilt, Removed, Folded, Ends}
use Rattle.load_laws.proofs.Phases.{Is, calls_left, IsFrame, disk_behind, IsControl, Stands, GoesOn}
use Rattle.load_laws.proofs.Calls.{none_left}
use Rattle.load_laws.proofs.Frames.{goes_by_frame}
use Rattle.load_laws.proofs.Controls.{goes_by_control}
use Rattle.load_laws.proofs.Marks.{IsNoFault, goes_by_mark}

-- each entry is a frame's or the control stream's, and from the first disk the frames leave the second
abbrev pub Runs : ℕ → List ℕ → List ℕ → List Entry → Type 0
Runs slices disk final [] = disk ≡ final
Runs slices disk final (e ∷ es) =
    (IsFrame slices disk e × Runs slices (disk_behind disk e) final es) ⊎ (IsControl slices e × Runs slices disk final es)

-- the control stream comes to its end
pub record RunsOut (slices : ℕ) (blank disk : List ℕ) (before es : List Entry) : Type 0 where
  pub final : List ℕ
  pub runs : Runs slices disk final es
  pub ends : Is blank Ends final (before ++ es)

-- no fault is shown
abbrev pub HasNoFault : List Entry → Type 0
HasNoFault [] = Unit {0}
HasNoFault (e ∷ es) = IsNoFault e × HasNoFault es

-- where no call of the control stream is left it has come to its end
at_end : (p : Phase) → [] ≡ calls_left p → p ≡ Ends
at_end Begins e = absurd cc
at_end Taken e = absurd cc
at_end Falls e = absurd cc
at_end Fallen e = absurd cc
at_end Opened e = absurd cc
at_end Promoted e = absurd cc
at_end Rebuilt e = absurd cc
at_end Removed e = absurd cc
at_end Folded e = absurd cc
at_end Ends e = refl

-- the next entry
goes_by_answer : (slices : ℕ) (blank : List ℕ) (p : Phase) (disk : List ℕ) (before es : List Entry) (a : Answer)
    → Stands slices blank p disk before (entry.Answer a ∷ es) → MayStand (fresh blank) before (entry.Answer a) es
    → GoesOn slices blank p disk before (entry.Answer a) es
goes_by_answer slices blank p disk before es a at may = ⊎_elim
    (λ own. goes_by_control slices blank p disk before es a at may own)
    (λ other. ⊎_elim
    (λ low. goes_by_frame slices blank p disk before es a at may low)
    (λ high. absurd (none_left slices p a es at.left high))
    other)
    (cases_order a.stream slices)

-- each entry
goes_on : (slices : ℕ) (blank : List ℕ) (p : Phase) (disk : List ℕ) (before es : List Entry) (e : Entry)
    → Stands slices blank p disk before (e ∷ es) → MayStand (fresh blank) before e es → StandsBehindFall before e es → IsNoFault e
    → GoesOn slices blank p disk before e es
goes_on slices blank p disk before es (entry.Answer a) at may behind none = goes_by_answer slices blank p disk before es a at may
goes_on slices blank p disk before es (entry.Mark m) at may behind none = goes_by_mark slices blank p disk before es m at may behind none

-- what comes out behind the first entry comes out
out_by_frame : (slices : ℕ) (blank disk : List ℕ) (before es : List Entry) (e : Entry) → IsFrame slices disk e
    → RunsOut slices blank (disk_behind disk e) (before ++ e ∷ []) es → RunsOut slices blank disk before (e ∷ es)
out_by_frame slices blank disk before es e frame out = record {
  final = out.final;
  runs = inl (frame, out.runs);
  ends = subst (Is blank Ends out.final) (append_assoc before (e ∷ []) es) out.ends;
}

-- whether that is a frame's or the control stream's
out_by_control : (slices : ℕ) (blank disk : List ℕ) (before es : List Entry) (e : Entry) → IsControl slices e
    → RunsOut slices blank disk (before ++ e ∷ []) es → RunsOut slices blank disk before (e ∷ es)
out_by_control slices blank disk before es e control out = record {
  final = out.final;
  runs = inr (control, out.runs);
  ends = subst (Is blank Ends out.final) (append_assoc before (e ∷ []) es) out.ends;
}

-- where each entry may stand, and no fault is shown, the entries are a run
pub runs_out : (slices : ℕ) (blank : List ℕ) (p : Phase) (disk : List ℕ) (before es : List Entry)
    → Stands slices blank p disk before es → LegalAfter (fresh blank) before es → StandFrom StandsBehindFall before es → HasNoFault es
    → RunsOut slices blank disk before es
runs_out slices blank p disk before [] at legal behind none = record {
  final = disk;
  runs = refl;
  ends = subst (λ q. Is blank q disk (before ++ [])) (at_end p at.left.control)
      (subst (Is blank p disk) (sym (append-nil before)) at.is);
}
runs_out slices blank p disk before (e ∷ es) at legal behind none = ⊎_elim
    (λ frame. out_by_frame slices blank disk before es e frame.0
    (runs_out slices blank p (disk_behind disk e) (before ++ e ∷ []) es frame.1 legal.1 behind.1 none.1))
    (λ control. out_by_control slices blank disk before es e control.0
    (runs_out slices blank control.1 disk (before ++ e ∷ []) es control.2 legal.1 behind.1 none.1))
    (goes_on slices blank p disk before es e at legal.0 behind.0 none.0)
