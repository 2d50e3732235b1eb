-- The text of a reply with the end of its line behind it tells the reply.
use Rattle.std.proofs.Common.{◌≡◌, ℕ, ◌<◌, List, [], ◌∷◌, ◌++◌, drop, get_or, flat_map, codes, refl, ap, ◌∙◌}
use Rattle.std.proofs.Common.{sym, append_assoc, append-nil, arith}
use Rattle.std.specs.List.{AllByRecursion}
use Rattle.volume_model.specs.declared.call.Refusal.{Refusal}
use Rattle.volume_model.specs.declared.call.Refusal.TheVariants.{TooLong, OutOfRange, Unsupported, NameUsed}
use Rattle.volume_model.specs.declared.call.Refusal.TheVariants.{ChainFull, NoSuchSnapshot, NoReplica, InUse}
use Rattle.volume_model.specs.declared.call.Refusal.TheVariants.{BackupExists, BlockDiffers, TargetFault}
use Rattle.volume_model.specs.declared.call.Reply.{Reply}
use Rattle.volume_model.specs.declared.call.Reply.TheVariants.{Done, Read, Status, Refused, Aborted}
use Rattle.volume_model.specs.declared.mode.Mode.{Mode}
use Rattle.volume_model.specs.declared.mode.Mode.TheVariants.{Rw, Wo, Err}
use Rattle.volume_model.specs.Texts.{refusal_text}
use Rattle.run_report.specs.Lines.{mode_text, modes_text, reply_text}
use Rattle.image_runs.specs.Runs.{runs_text}
use Rattle.report_laws.specs.Fits.{ReplyFits}
use Rattle.report_laws.proofs.Words.{cut, space, line_end, three, IsWord-runs}
use Rattle.report_laws.proofs.Fields.{AreOne, one_by, two_by}
use Rattle.report_laws.proofs.Fields as field

same_mode : (m n : Mode) (xs ys : List ℕ) → mode_text m ++ xs ≡ mode_text n ++ ys → AreOne m n xs ys
same_mode Rw Rw xs ys e = record { same = refl; rest = ap (drop 2) e }
same_mode Wo Wo xs ys e = record { same = refl; rest = ap (drop 2) e }
same_mode Err Err xs ys e = record { same = refl; rest = ap (drop 3) e }
same_mode m n xs ys e = absurd (omega (arith, ap (λ text. get_or text 0 0) e))

-- modes, each behind a comma
abbrev behind_commas : List Mode → List ℕ
behind_commas modes = flat_map (λ m. 44 ∷ mode_text m) modes

first_and_more : (m : Mode) (ms : List Mode) → modes_text (m ∷ ms) ≡ mode_text m ++ behind_commas ms
first_and_more m [] = sym (append-nil (mode_text m))
first_and_more m (n ∷ ns) = ap (λ l. mode_text m ++ 44 ∷ l) (first_and_more n ns)

same_more : (ms ns : List Mode) (xs ys : List ℕ) → behind_commas ms ++ 10 ∷ xs ≡ behind_commas ns ++ 10 ∷ ys → AreOne ms ns xs ys
same_more [] [] xs ys e = record { same = refl; rest = ap (drop 1) e }
same_more (m ∷ ms) (n ∷ ns) xs ys e =
    two_by (λ k ks. k ∷ ks) (same_mode m n _ _ (simp append_assoc at (ap (drop 1) e))) (same_more ms ns xs ys)
same_more ms ns xs ys e = absurd (omega (arith, ap (λ text. get_or text 0 0) e))

-- a text of modes with the end of the line behind it begins with no line feed
no_end : (m : Mode) (ms : List Mode) (xs ys : List ℕ) → 10 ∷ xs ≡ modes_text (m ∷ ms) ++ ys → ⊥
no_end m ms xs ys e = first m (e ∙ ap (λ l. l ++ ys) (first_and_more m ms))
  where
    first : (k : Mode) → 10 ∷ xs ≡ (mode_text k ++ behind_commas ms) ++ ys → ⊥
    first Rw f = omega (arith, ap (λ text. get_or text 0 0) f)
    first Wo f = omega (arith, ap (λ text. get_or text 0 0) f)
    first Err f = omega (arith, ap (λ text. get_or text 0 0) f)

same_modes : (ms ns : List Mode) (xs ys : List ℕ) → modes_text ms ++ 10 ∷ xs ≡ modes_text ns ++ 10 ∷ ys → AreOne ms ns xs ys
same_modes [] [] xs ys e = record { same = refl; rest = ap (drop 1) e }
same_modes [] (n ∷ ns) xs ys e = absurd (no_end n ns xs (10 ∷ ys) e)
same_modes (m ∷ ms) [] xs ys e = absurd (no_end m ms ys (10 ∷ xs) (sym e))
same_modes (m ∷ ms) (n ∷ ns) xs ys e =
    let cut_off = ap (λ l. l ++ 10 ∷ xs) (sym (first_and_more m ms)) ∙ e ∙ ap (λ l. l ++ 10 ∷ ys) (first_and_more n ns) in
    two_by (λ k ks. k ∷ ks) (same_mode m n _ _ (simp append_assoc at cut_off)) (same_more ms ns xs ys)

same_refusal : (w v : Refusal) (xs ys : List ℕ) → refusal_text w ++ 10 ∷ xs ≡ refusal_text v ++ 10 ∷ ys → AreOne w v xs ys
same_refusal TooLong TooLong xs ys e = record { same = refl; rest = ap (drop 9) e }
same_refusal OutOfRange OutOfRange xs ys e = record { same = refl; rest = ap (drop 13) e }
same_refusal Unsupported Unsupported xs ys e = record { same = refl; rest = ap (drop 12) e }
same_refusal NameUsed NameUsed xs ys e = record { same = refl; rest = ap (drop 10) e }
same_refusal ChainFull ChainFull xs ys e = record { same = refl; rest = ap (drop 11) e }
same_refusal NoSuchSnapshot NoSuchSnapshot xs ys e = record { same = refl; rest = ap (drop 17) e }
same_refusal NoReplica NoReplica xs ys e = record { same = refl; rest = ap (drop 11) e }
same_refusal InUse InUse xs ys e = record { same = refl; rest = ap (drop 7) e }
same_refusal BackupExists BackupExists xs ys e = record { same = refl; rest = ap (drop 14) e }
same_refusal BlockDiffers BlockDiffers xs ys e = record { same = refl; rest = ap (drop 14) e }
same_refusal TargetFault TargetFault xs ys e = record { same = refl; rest = ap (drop 13) e }
same_refusal NoSuchSnapshot NoReplica xs ys e = absurd (omega (arith, ap (λ text. get_or text 3 0) e))
same_refusal NoReplica NoSuchSnapshot xs ys e = absurd (omega (arith, ap (λ text. get_or text 3 0) e))
same_refusal w v xs ys e = absurd (omega (arith, ap three e))

-- bytes that were read are no status
no_status : (bytes xs ys : List ℕ) → runs_text bytes ++ 10 ∷ xs ≡ codes "layers" ++ 32 ∷ ys → ⊥
no_status bytes xs ys e =
    let c = cut (runs_text bytes) (codes "layers") 10 32 xs ys (IsWord-runs bytes) word line_end space e in
    omega (arith, c.stop)
  where
    word : AllByRecursion (λ (b : ℕ). 32 < b) (codes "layers")
    word = (omega arith, (omega arith, (omega arith, (omega arith, (omega arith, (omega arith, tt))))))

-- no refusal says that a rebuild was aborted
no_abort : (why : Refusal) (xs ys : List ℕ) → refusal_text why ++ xs ≡ codes "aborted " ++ ys → ⊥
no_abort TooLong xs ys e = omega (arith, ap three e)
no_abort why xs ys e = omega (arith, ap three e)

pub same_reply : (r s : Reply) (xs ys : List ℕ) → ReplyFits r → ReplyFits s → reply_text r ++ 10 ∷ xs ≡ reply_text s ++ 10 ∷ ys
    → AreOne r s xs ys
same_reply Done Done xs ys p q e = record { same = refl; rest = ap (drop 3) e }
same_reply (Read us) (Read vs) xs ys p q e = one_by Read (field.bytes 10 line_end xs ys us vs p q (ap (drop 3) e))
same_reply (Status l ms) (Status k ns) xs ys p q e =
    two_by Status (field.number 32 space _ _ l k p q (simp append_assoc at (ap (drop 10) e)))
    (λ rest. same_modes ms ns xs ys (ap (drop 6) rest))
same_reply (Refused w) (Refused v) xs ys p q e = one_by Refused (same_refusal w v xs ys (ap (drop 6) e))
same_reply (Aborted m) (Aborted n) xs ys p q e = one_by Aborted (field.number 10 line_end xs ys m n p q (ap (drop 14) e))
same_reply (Read us) (Status k ns) xs ys p q e = absurd (no_status us xs _ (ap (drop 3) e))
same_reply (Status l ms) (Read vs) xs ys p q e = absurd (no_status vs ys _ (sym (ap (drop 3) e)))
same_reply (Refused w) (Aborted n) xs ys p q e = absurd (no_abort w _ _ (ap (drop 6) e))
same_reply (Aborted m) (Refused v) xs ys p q e = absurd (no_abort v _ _ (sym (ap (drop 6) e)))
same_reply r s xs ys p q e = absurd (omega (arith, ap three e))
