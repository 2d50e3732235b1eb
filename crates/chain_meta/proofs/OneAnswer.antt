-- One answer is true of bytes, but for want of memory, where members and what they tell are one.
use Rattle.std.proofs.Common.{◌≡◌, ℕ, Bool, true, false, true≢false, List, Option, Some, None, Result, Ok, Err}
use Rattle.std.proofs.Common.{inl, inr, refl, sym, ap, subst, ◌∙◌}
use Rattle.serde_json.specs.Data.{Data}
use Rattle.serde_json.specs.Read.{read}
use Rattle.chain_meta.specs.Answers.{HasMembers, Says, Answers, IsOnlyAnswer}
use Rattle.chain_meta.specs.declared.error.MetaError.{MetaError}
use Rattle.chain_meta.specs.declared.error.MetaError.TheVariants.{Syntax, Missing, Backing, NoMemory}
use Rattle.chain_meta.specs.declared.error.MetaMember.{MetaMember}
use Rattle.chain_meta.proofs.Found.{same_value, no_value}

module _ {M T : Type 0} (Has : Data → M → Type 0) (missing : M → Option MetaMember) (backed : M → Bool)
    (Tells : M → T → Type 0) (one_has : (d : Data) (a b : M) → Has d a → Has d b → a ≡ b)
    (one_tells : (m : M) (a b : T) → Tells m a → Tells m b → a ≡ b)
    (whole : (m : M) (t : T) → Tells m t → missing m ≡ None)
    (bare : (m : M) (t : T) → Tells m t → backed m ≡ false) where
  one_members : (bytes : List ℕ) (a b : M) → HasMembers Has missing backed Tells bytes a
      → HasMembers Has missing backed Tells bytes b → a ≡ b
  one_members bytes a b (d, object, has) (e, also, too) =
      one_has d a b has (subst (λ x. Has x b) (same_value (read bytes) also.value object.value) too)

  -- what is true of members of the bytes is true of any other
  beside : (bytes : List ℕ) (m n : M) (P : M → Type 0) → HasMembers Has missing backed Tells bytes m
      → HasMembers Has missing backed Tells bytes n → P n → P m
  beside bytes m n P has too holds = subst P (one_members bytes n m too has) holds

  -- bytes say one thing
  pub one_said : (bytes : List ℕ) (t u : T) → Says Has missing backed Tells bytes t → Says Has missing backed Tells bytes u
      → t ≡ u
  one_said bytes t u (m, has, is) (n, too, also) = one_tells m t u is (beside bytes m n (λ x. Tells x u) has too also)

  pub only_answer : (bytes : List ℕ) (a : Result T MetaError) → Answers Has missing backed Tells bytes a
      → IsOnlyAnswer Has missing backed Tells bytes a
  only_answer bytes (Ok t) is (Ok u) told too = inl (ap Ok (one_said bytes t u is too))
  only_answer bytes (Ok t) (m, has, is) (Err Syntax) told none = absurd (none m has)
  only_answer bytes (Ok t) (m, has, is) (Err (Missing k)) told (n, too, also) =
      absurd (no_value (missing m) (whole m t is) (beside bytes m n (λ x. missing x ≡ Some k) has too also))
  only_answer bytes (Ok t) (m, has, is) (Err Backing) told (n, too, there, also) =
      absurd (true≢false (sym (beside bytes m n (λ x. backed x ≡ true) has too also) ∙ bare m t is))
  only_answer bytes (Ok t) says (Err NoMemory) told free = absurd (told refl)
  only_answer bytes (Err Syntax) none (Ok u) told (n, too, also) = absurd (none n too)
  only_answer bytes (Err Syntax) none (Err Syntax) told also = inl refl
  only_answer bytes (Err Syntax) none (Err (Missing k)) told (n, too, also) = absurd (none n too)
  only_answer bytes (Err Syntax) none (Err Backing) told (n, too, there, also) = absurd (none n too)
  only_answer bytes (Err Syntax) none (Err NoMemory) told free = absurd (told refl)
  only_answer bytes (Err (Missing k)) (m, has, is) (Ok u) told (n, too, also) =
      absurd (no_value (missing m) (beside bytes m n (λ x. missing x ≡ None) has too (whole n u also)) is)
  only_answer bytes (Err (Missing k)) (m, has, is) (Err Syntax) told none = absurd (none m has)
  only_answer bytes (Err (Missing k)) (m, has, is) (Err (Missing l)) told (n, too, also) =
      let one : k ≡ l = same_value (missing m) is (beside bytes m n (λ x. missing x ≡ Some l) has too also) in
      inl (ap (λ (x : MetaMember). Err (Missing x)) one)
  only_answer bytes (Err (Missing k)) (m, has, is) (Err Backing) told (n, too, there, also) =
      absurd (no_value (missing m) (beside bytes m n (λ x. missing x ≡ None) has too there) is)
  only_answer bytes (Err (Missing k)) says (Err NoMemory) told free = absurd (told refl)
  only_answer bytes (Err Backing) (m, has, there, is) (Ok u) told (n, too, also) =
      absurd (true≢false (sym is ∙ beside bytes m n (λ x. backed x ≡ false) has too (bare n u also)))
  only_answer bytes (Err Backing) (m, has, there, is) (Err Syntax) told none = absurd (none m has)
  only_answer bytes (Err Backing) (m, has, there, is) (Err (Missing l)) told (n, too, also) =
      absurd (no_value (missing m) there (beside bytes m n (λ x. missing x ≡ Some l) has too also))
  only_answer bytes (Err Backing) says (Err Backing) told also = inl refl
  only_answer bytes (Err Backing) says (Err NoMemory) told free = absurd (told refl)
  only_answer bytes (Err NoMemory) free b told also = inr refl
