-- One answer is true of bytes, but for want of memory, where members are one.
use Rattle.std.proofs.Common.{◌≡◌, ◌≢◌, ℕ, List, Result, Ok, Err, inl, inr, refl, sym, ap, subst, ◌∙◌}
use Rattle.serde_json.specs.Data.{Data}
use Rattle.serde_json.specs.Read.{read}
use Rattle.backup_config.specs.Answers.{AreMembers, Gives, Says, IsOnlyAnswer}
use Rattle.backup_config.specs.declared.error.CfgError.{CfgError}
use Rattle.backup_config.specs.declared.error.CfgError.TheVariants.{Syntax, Missing, Compressed, Backing, NoMemory}
use Rattle.backup_config.proofs.Found.{same_value}

module _ {M T : Type 0} (Has : Data → M → Type 0) (answer : M → Result T CfgError)
    (one_has : (d : Data) (a b : M) → Has d a → Has d b → a ≡ b) where
  one_members : (bytes : List ℕ) (a b : M) → AreMembers Has answer bytes a → AreMembers Has answer bytes b → a ≡ b
  one_members bytes a b (d, object, has) (e, also, too) =
      one_has d a b has (subst (λ x. Has x b) (same_value (read bytes) also.value object.value) too)

  one_given : (bytes : List ℕ) (a b : Result T CfgError) → Gives Has answer bytes a → Gives Has answer bytes b → a ≡ b
  one_given bytes a b (m, has, is) (n, too, also) = sym is ∙ ap answer (one_members bytes m n has too) ∙ also

  none_given : (bytes : List ℕ) (a : Result T CfgError) → Gives Has answer bytes a → Says Has answer bytes (Err Syntax) → ⊥
  none_given bytes a (m, has, is) none = none m has

  -- one that is given, beside any other that is true
  beside : (bytes : List ℕ) (a b : Result T CfgError) → Gives Has answer bytes a → b ≢ Err NoMemory
      → Says Has answer bytes b → a ≡ b
  beside bytes a (Ok u) given told too = one_given bytes a (Ok u) given too
  beside bytes a (Err Syntax) given told too = absurd (none_given bytes a given too)
  beside bytes a (Err (Missing n)) given told too = one_given bytes a (Err (Missing n)) given too
  beside bytes a (Err Compressed) given told too = one_given bytes a (Err Compressed) given too
  beside bytes a (Err Backing) given told too = one_given bytes a (Err Backing) given too
  beside bytes a (Err NoMemory) given told too = absurd (told refl)

  pub only_answer : (bytes : List ℕ) (a : Result T CfgError) → Says Has answer bytes a → IsOnlyAnswer Has answer bytes a
  only_answer bytes (Ok t) is b told too = inl (beside bytes (Ok t) b is told too)
  only_answer bytes (Err (Missing n)) is b told too = inl (beside bytes (Err (Missing n)) b is told too)
  only_answer bytes (Err Compressed) is b told too = inl (beside bytes (Err Compressed) b is told too)
  only_answer bytes (Err Backing) is b told too = inl (beside bytes (Err Backing) b is told too)
  only_answer bytes (Err NoMemory) is b told too = inr refl
  only_answer bytes (Err Syntax) none (Ok u) told too = absurd (none_given bytes (Ok u) too none)
  only_answer bytes (Err Syntax) none (Err Syntax) told too = inl refl
  only_answer bytes (Err Syntax) none (Err (Missing n)) told too = absurd (none_given bytes (Err (Missing n)) too none)
  only_answer bytes (Err Syntax) none (Err Compressed) told too = absurd (none_given bytes (Err Compressed) too none)
  only_answer bytes (Err Syntax) none (Err Backing) told too = absurd (none_given bytes (Err Backing) too none)
  only_answer bytes (Err Syntax) none (Err NoMemory) told too = absurd (told refl)
