-- What `strip_prefix` says of a text, what one digit is, and that a text is one command.
use Rattle.std.proofs.Common.{◌≡◌, ◌∙◌, ℕ, ◌+◌, ◌-◌, ◌≤◌, ◌<◌, ap, sym, true, List, [], ◌∷◌, ◌++◌, length, get_or}
use Rattle.std.proofs.Common.{take, drop, nat_eq, decimal, arith, rules}
use Rattle.std.specs.Cmp.Lexicographic.{pointwise}
use Rattle.std.proofs.lemmas.List.{take-append-drop}
use Rattle.std.proofs.lemmas.Slice.Eq.{bytes_eq-Decides}
use Rattle.std.proofs.lemmas.Fmt.{decimal_digit, decimal_injective}
use Rattle.volume_model.specs.Commands.{IsCommand}
use Rattle.volume_model.proofs.NameParts.{same_names}
use Rattle.volume_model.specs.declared.command.Command.{Command}
use Rattle.volume_model.specs.declared.command.Command.TheVariants.{Fail, Add, Backup}

-- a text that begins with a word is that word and the name that is left
pub word_and_name :
    (text word rest name : List ℕ)
    → pointwise nat_eq (take (length word) text) word ≡ true → rest ≡ drop (length word) text → name ≡ rest
    → text ≡ word ++ name
word_and_name text word rest name begins is same =
    sym (take-append-drop (length word) text)
    ∙ ap (λ front. front ++ drop (length word) text) ((bytes_eq-Decides (take (length word) text) word).0 begins)
    ∙ ap (λ more. word ++ more) (sym (same ∙ is))

-- a digit is the text of its number
pub is_digit : (text : List ℕ) → length text ≡ 1 → 48 ≤ get_or text 0 0 → get_or text 0 0 ≤ 57
    → (get_or text 0 0 - 48 < 10) × (text ≡ decimal (get_or text 0 0 - 48))
is_digit [] one low high = absurd (omega arith)
is_digit (byte ∷ []) one low high =
    let back : byte ≡ 48 + (byte - 48) = omega arith in
    (omega arith, ap (λ (b : ℕ). b ∷ []) back ∙ sym (decimal_digit (byte - 48) (omega arith)))
is_digit (byte ∷ more ∷ rest) one low high = absurd (omega arith)

-- and nothing else is the text of such a number
pub digit_of : (text : List ℕ) (n : ℕ) → n < 10 → text ≡ decimal n → (length text ≡ 1) × (get_or text 0 0 ≡ 48 + n)
digit_of text n small is =
    let one : text ≡ (48 + n) ∷ [] = is ∙ decimal_digit n small in
    (ap length one, ap (λ (t : List ℕ). get_or t 0 0) one)

-- no text is that of two commands
pub same_text : (text : List ℕ) (a b : Command) → IsCommand text a → IsCommand text b → a ≡ b
same_text text (Fail m) (Fail n) is too =
    let m_small : m < 10 = is.named in
    let n_small : n < 10 = too.named in
    ap Fail (decimal_injective m n (omega arith) (omega arith) (ap (drop 6) (sym is.spelled ∙ too.spelled)))
same_text text (Add m) (Add n) is too =
    let m_small : m < 10 = is.named in
    let n_small : n < 10 = too.named in
    ap Add (decimal_injective m n (omega arith) (omega arith) (ap (drop 5) (sym is.spelled ∙ too.spelled)))
same_text text (Backup b m) (Backup c n) is too =
    let same = same_names b c m n is.named.0 too.named.0 (ap (drop 7) (sym is.spelled ∙ too.spelled)) in
    both same.0 same.1
  where
    both : b ≡ c → m ≡ n → Backup b m ≡ Backup c n
    both e f = cc
same_text text a b is too = search rules
