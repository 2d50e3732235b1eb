-- The text of a call with a space behind it tells the call.
use Rattle.std.proofs.Common.{◌≡◌, ℕ, List, ◌∷◌, ◌++◌, length, drop, refl, ap, append_assoc, arith}
use Rattle.volume_model.specs.declared.call.Call.{Call}
use Rattle.volume_model.specs.declared.call.Call.TheVariants.{Read, Write, Ping, Other, Command}
use Rattle.volume_model.specs.declared.command.Command.TheVariants.{Snapshot, Remove, Revert, Purge, Status, Fail, Add, Backup}
use Rattle.run_report.specs.Lines.{call_text}
use Rattle.report_laws.specs.Fits.{CallFits}
use Rattle.report_laws.proofs.Words.{space, three}
use Rattle.report_laws.proofs.Fields.{AreOne, one_by, two_by}
use Rattle.report_laws.proofs.Fields as field

pub same_call : (c d : Call) (xs ys : List ℕ) → CallFits c → CallFits d
    → call_text c ++ 32 ∷ xs ≡ call_text d ++ 32 ∷ ys → AreOne c d xs ys
same_call (Read y m) (Read z n) xs ys p q e =
    two_by Read (field.offset 32 space _ _ y z p.0 q.0 (simp append_assoc at (ap (drop 5) e)))
    (λ rest. field.number 32 space xs ys m n p.1 q.1 rest)
same_call (Write y us) (Write z vs) xs ys p q e =
    two_by Write (field.offset 32 space _ _ y z p.0 q.0 (simp append_assoc at (ap (drop 6) e)))
    (λ rest. let count = field.number 32 space _ _ (length us) (length vs) p.1.few q.1.few rest in
    field.bytes 32 space xs ys us vs p.1 q.1 count.rest)
same_call Ping Ping xs ys p q e = record { same = refl; rest = ap (drop 5) e }
same_call (Other m) (Other n) xs ys p q e = one_by Other (field.number 32 space xs ys m n p q (ap (drop 6) e))
same_call (Command (Snapshot m)) (Command (Snapshot n)) xs ys p q e =
    one_by (λ l. Command (Snapshot l)) (field.name 32 space xs ys m n p q (ap (drop 9) e))
same_call (Command (Remove m)) (Command (Remove n)) xs ys p q e =
    one_by (λ l. Command (Remove l)) (field.name 32 space xs ys m n p q (ap (drop 7) e))
same_call (Command (Revert m)) (Command (Revert n)) xs ys p q e =
    one_by (λ l. Command (Revert l)) (field.name 32 space xs ys m n p q (ap (drop 7) e))
same_call (Command Purge) (Command Purge) xs ys p q e = record { same = refl; rest = ap (drop 6) e }
same_call (Command Status) (Command Status) xs ys p q e = record { same = refl; rest = ap (drop 7) e }
same_call (Command (Fail m)) (Command (Fail n)) xs ys p q e =
    one_by (λ r. Command (Fail r)) (field.number 32 space xs ys m n p q (ap (drop 6) e))
same_call (Command (Add m)) (Command (Add n)) xs ys p q e =
    one_by (λ r. Command (Add r)) (field.number 32 space xs ys m n p q (ap (drop 5) e))
same_call (Command (Backup a m)) (Command (Backup b n)) xs ys p q e =
    two_by (λ k l. Command (Backup k l)) (field.name 32 space _ _ a b p.0 q.0 (simp append_assoc at (ap (drop 7) e)))
    (λ rest. field.name 32 space xs ys m n p.1 q.1 rest)
same_call (Read y m) (Command (Snapshot n)) xs ys p q e = absurd (omega (arith, ap three e))
same_call (Write y us) (Command (Snapshot n)) xs ys p q e = absurd (omega (arith, ap three e))
same_call Ping (Command (Snapshot n)) xs ys p q e = absurd (omega (arith, ap three e))
same_call (Other m) (Command (Snapshot n)) xs ys p q e = absurd (omega (arith, ap three e))
same_call c d xs ys p q e = absurd (omega (arith, ap three e))
