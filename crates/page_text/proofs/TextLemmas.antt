-- Texts of pages: pieces one after another, and what they tell.
use Rattle.std.proofs.Common.{zero, suc, arith, ◌≡◌, ℕ, ◌+◌, ◌*◌, ◌<◌, ◌≤◌, inl, inr, refl, add-one, ◌/◌, ◌%◌, List}
use Rattle.std.proofs.Common.{[], ◌∷◌, ◌++◌, length, length-append, Option, Some, None, sym, ap, subst, ◌∙◌}
use Rattle.std.proofs.Common.{append_assoc, append-nil}
use Rattle.std.specs.Prelude.{is_some, unwrap_or, if◌then◌else◌}
use Rattle.std.proofs.Math.Nat.{eq-or-lt_of_le}
use Rattle.sparse_image.specs.declared.block.TheConstants.{BLOCK_BYTES, PAGE_BLOCKS}
use Rattle.sparse_image.specs.Disk.{joined}
use Rattle.sparse_image.specs.Image.{Table, place_at}
use Rattle.sparse_image.specs.Whole.{IsTable}
use Rattle.page_text.specs.Text.{bit_at, block_at, blocks_of, map_byte, map_of, page_text}

-- nothing is joined of none, and one more piece is appended
pub joined_init : (f : ℕ → List ℕ) (before : List ℕ) → before ≡ before ++ joined f 0
unfolding joined
joined_init f before = sym (append-nil before)

pub joined_step : (f : ℕ → List ℕ) (n : ℕ) (before so_far now : List ℕ) → so_far ≡ before ++ joined f n
    → now ≡ so_far ++ f n → now ≡ before ++ joined f (n + 1)
unfolding joined
joined_step f n before so_far now is more = rw add-one (more ∙ ap (λ l. l ++ f n) is ∙ append_assoc before (joined f n) (f n))

pub joined_most : (f : ℕ → List ℕ) (n k : ℕ) → length (joined f n) ≤ n * k → length (f n) ≤ k → length (joined f (n + 1)) ≤ (n + 1) * k
unfolding joined
joined_most f n k most one = rw add-one (omega (arith, length-append (joined f n) (f n)))

pub joined_nothing : (f : ℕ → List ℕ) (k : ℕ) → length (joined f 0) ≤ 0 * k
unfolding joined
joined_nothing f k = omega arith

pub length-joined : (f : ℕ → List ℕ) (n k : ℕ) → ((i : ℕ) → length (f i) ≡ k) → length (joined f n) ≡ n * k
unfolding joined
length-joined f zero k long = omega arith
length-joined f (suc n) k long = omega (arith, length-append (joined f n) (f n), length-joined f n k long, long n)

-- ---- what a text tells

-- two lists of one length in front
split : (a b c d : List ℕ) → length a ≡ length c → a ++ b ≡ c ++ d → (a ≡ c) × (b ≡ d)
split [] b [] d long same = (refl, same)
split [] b (y ∷ c) d long same = absurd (cc)
split (x ∷ a) b [] d long same = absurd (cc)
split (x ∷ a) b (y ∷ c) d long same =
    let long' : length a ≡ length c = omega (arith, long) in
    let tail : a ++ b ≡ c ++ d = cc in
    let r = split a b c d long' tail in
    let head : x ≡ y = cc in
    let e = r.0 in
    (cc, r.1)

-- pieces of one length each
module _ (f g : ℕ → List ℕ) where
  length-joined_same : (n : ℕ) → ((i : ℕ) → i < n → length (f i) ≡ length (g i)) → length (joined f n) ≡ length (joined g n)
  unfolding joined
  length-joined_same zero long = refl
  length-joined_same (suc n) long =
      omega (
        arith,
        length-append (joined f n) (f n),
        length-append (joined g n) (g n),
        long n (omega arith),
        length-joined_same n (λ i lt. long i (omega arith)),
      )

  joined_tells : (n : ℕ) → ((i : ℕ) → i < n → length (f i) ≡ length (g i)) → joined f n ≡ joined g n → (i : ℕ) → i < n → f i ≡ g i
  unfolding joined
  joined_tells zero long same i lt = absurd (omega arith)
  joined_tells (suc n) long same i lt =
      let parts = split (joined f n) (f n) (joined g n) (g n) (length-joined_same n (λ k below. long k (omega arith))) same in
      let most : i ≤ n = omega arith in
      elim (eq-or-lt_of_le most) [ inl at ↦ rw at parts.1 | inr below ↦ joined_tells n (λ k k_below. long k (omega arith)) parts.0 i below ]

-- eight bits are read off their byte
bits_same : (a b c d e f g h a2 b2 c2 d2 e2 f2 g2 h2 : ℕ) → a ≤ 1 → b ≤ 1 → c ≤ 1 → d ≤ 1 → e ≤ 1 → f ≤ 1 → g ≤ 1 → h ≤ 1
    → a2 ≤ 1 → b2 ≤ 1 → c2 ≤ 1 → d2 ≤ 1 → e2 ≤ 1 → f2 ≤ 1 → g2 ≤ 1 → h2 ≤ 1
    → a + 2 * b + 4 * c + 8 * d + 16 * e + 32 * f + 64 * g + 128 * h ≡ a2 + 2 * b2 + 4 * c2 + 8 * d2 + 16 * e2 + 32 *
    f2 + 64 * g2 + 128 * h2
    → (a ≡ a2) × (b ≡ b2) × (c ≡ c2) × (d ≡ d2) × (e ≡ e2) × (f ≡ f2) × (g ≡ g2) × (h ≡ h2)
bits_same a b c d e f g h a2 b2 c2 d2 e2 f2 g2 h2 la lb lc ld le lf lg lh la2 lb2 lc2 ld2 le2 lf2 lg2 lh2 same =
    let ea : a ≡ a2 = omega arith in
    let eb : b ≡ b2 = omega arith in
    let ec : c ≡ c2 = omega arith in
    let ed : d ≡ d2 = omega arith in
    let ee : e ≡ e2 = omega arith in
    let ef : f ≡ f2 = omega arith in
    let eg : g ≡ g2 = omega arith in
    (ea, eb, ec, ed, ee, ef, eg, omega arith)

abbrev bit_of : Option (List ℕ) → ℕ
bit_of b = if is_some b then 1 else 0

bit_most : (b : Option (List ℕ)) → bit_of b ≤ 1
bit_most None = omega arith
bit_most (Some b) = omega arith

-- a block that is there in both pages or in neither
there_same : (n : ℕ) (b c : Option (List ℕ)) → ((x : List ℕ) → b ≡ Some x → length x ≡ n) → ((x : List ℕ) → c ≡ Some x → length x ≡ n)
    → bit_of b ≡ bit_of c → length (unwrap_or b []) ≡ length (unwrap_or c [])
there_same n None None hb hc same = refl
there_same n None (Some c) hb hc same = absurd (omega (arith, same))
there_same n (Some b) None hb hc same = absurd (omega (arith, same))
there_same n (Some b) (Some c) hb hc same = hb b refl ∙ sym (hc c refl)

block_same : (b c : Option (List ℕ)) → bit_of b ≡ bit_of c → unwrap_or b [] ≡ unwrap_or c [] → b ≡ c
block_same None None there same = refl
block_same None (Some c) there same = absurd (omega (arith, there))
block_same (Some b) None there same = absurd (omega (arith, there))
block_same (Some b) (Some c) there same = ap Some same

-- what holds of each number below eight
by_cases : (P : ℕ → Type 0) → P 0 → P 1 → P 2 → P 3 → P 4 → P 5 → P 6 → P 7 → (k : ℕ) → k < 8 → P k
by_cases P a b c d e f g h zero lt = a
by_cases P a b c d e f g h (suc zero) lt = b
by_cases P a b c d e f g h (suc (suc zero)) lt = c
by_cases P a b c d e f g h (suc (suc (suc zero))) lt = d
by_cases P a b c d e f g h (suc (suc (suc (suc zero)))) lt = e
by_cases P a b c d e f g h (suc (suc (suc (suc (suc zero))))) lt = f
by_cases P a b c d e f g h (suc (suc (suc (suc (suc (suc zero)))))) lt = g
by_cases P a b c d e f g h (suc (suc (suc (suc (suc (suc (suc zero))))))) lt = h
by_cases P a b c d e f g h (suc (suc (suc (suc (suc (suc (suc (suc k)))))))) lt = absurd (omega arith)

module _ (s t : Table) where
  bits_of_byte : (j : ℕ) → map_byte s j ≡ map_byte t j → (k : ℕ) → k < 8 → bit_at s (j * 8 + k) ≡ bit_at t (j * 8 + k)
  bits_of_byte j same k lt =
      let most = λ (u : Table) (i : ℕ). bit_most (place_at u i) in
      let b = bits_same (bit_at s (j * 8)) (bit_at s (j * 8 + 1)) (bit_at s (j * 8 + 2)) (bit_at s (j * 8 + 3))
      (bit_at s (j * 8 + 4)) (bit_at s (j * 8 + 5)) (bit_at s (j * 8 + 6)) (bit_at s (j * 8 + 7))
      (bit_at t (j * 8)) (bit_at t (j * 8 + 1)) (bit_at t (j * 8 + 2)) (bit_at t (j * 8 + 3))
      (bit_at t (j * 8 + 4)) (bit_at t (j * 8 + 5)) (bit_at t (j * 8 + 6)) (bit_at t (j * 8 + 7))
      (most s (j * 8)) (most s (j * 8 + 1)) (most s (j * 8 + 2)) (most s (j * 8 + 3))
      (most s (j * 8 + 4)) (most s (j * 8 + 5)) (most s (j * 8 + 6)) (most s (j * 8 + 7))
      (most t (j * 8)) (most t (j * 8 + 1)) (most t (j * 8 + 2)) (most t (j * 8 + 3))
      (most t (j * 8 + 4)) (most t (j * 8 + 5)) (most t (j * 8 + 6)) (most t (j * 8 + 7)) same in
      let first : j * 8 ≡ j * 8 + 0 = omega arith in
      by_cases (λ k. bit_at s (j * 8 + k) ≡ bit_at t (j * 8 + k)) (subst (λ p. bit_at s p ≡ bit_at t p) first b.0) b.1 b.2
      b.3 b.4 b.5 b.6 b.7 k lt

  bit_same : map_of s ≡ map_of t → (i : ℕ) → i < PAGE_BLOCKS → bit_at s i ≡ bit_at t i
  bit_same same i lt =
      let bytes : (map_byte s (i / 8) ∷ []) ≡ (map_byte t (i / 8) ∷ []) =
      joined_tells (λ byte. map_byte s byte ∷ []) (λ byte. map_byte t byte ∷ []) 64 (λ k below. refl) same (i / 8) (omega arith) in
      let byte : map_byte s (i / 8) ≡ map_byte t (i / 8) = cc in
      let place : i / 8 * 8 + i % 8 ≡ i = omega arith in
      subst (λ p. bit_at s p ≡ bit_at t p) place (bits_of_byte (i / 8) byte (i % 8) (omega arith))

  pub text_tells : (m n : List ℕ) → IsTable s → IsTable t → page_text m s ≡ page_text n t
      → (m ≡ n) × ((i : ℕ) → i < PAGE_BLOCKS → place_at s i ≡ place_at t i)
  text_tells m n s_is t_is same =
      let count : length m ≡ length n = cc in
      let rest : m ++ (map_of s ++ blocks_of s) ≡ n ++ (map_of t ++ blocks_of t) = cc in
      let names = split m (map_of s ++ blocks_of s) n (map_of t ++ blocks_of t) count rest in
      let long : length (map_of s) ≡ length (map_of t) =
      length-joined_same (λ byte. map_byte s byte ∷ []) (λ byte. map_byte t byte ∷ []) 64 (λ k below. refl) in
      let maps = split (map_of s) (blocks_of s) (map_of t) (blocks_of t) long names.1 in
      let bits = bit_same maps.0 in
      let blocks = joined_tells (block_at s) (block_at t) PAGE_BLOCKS
      (λ i lt. there_same BLOCK_BYTES (place_at s i) (place_at t i) (s_is.blocks i) (t_is.blocks i) (bits i lt)) maps.1 in
      (names.0, λ i lt. block_same (place_at s i) (place_at t i) (bits i lt) (blocks i lt))
