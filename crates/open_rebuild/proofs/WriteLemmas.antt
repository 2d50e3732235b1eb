-- What a write makes of the blocks that a head itself has, and why it keeps a rebuild.
use Rattle.std.proofs.Common.{◌≡◌, ⊎_elim, ◌⊎◌, inl, inr, ℕ, ◌+◌, ◌-◌, ◌*◌, ◌/◌, ◌<◌, ◌≤◌, true, false, cond, List}
use Rattle.std.proofs.Common.{length, get_or, None, Some, sym, ap, ◌∙◌, arith}
use Rattle.std.specs.Prelude.{◌||◌}
use Rattle.std.proofs.lemmas.Bool.{cases_lt}
use Rattle.std.proofs.lemmas.Bool.Decides.{nat_tests}
use Rattle.std.proofs.lemmas.List.{ext_get_or, get_or_past}
use Rattle.vol_units.specs.Bytes.{bytes_at, with_bytes_at}
use Rattle.open_calls.proofs.ByteLemmas.{length-put, get_or-put_in, get_or-put_out, length-bytes_at, get_or-bytes_at}
use Rattle.replica_node.specs.Node.{Node, has_own}
use Rattle.replica_node.specs.Room.{head_block, put_at, own_with, is_among}
use Rattle.replica_node.specs.Held.{block_of, IsChained}
use Rattle.sparse_image.proofs.ListedLemmas.{listed-at, listed-past}
use Rattle.open_rebuild.specs.Rebuild.{HasPut}

-- ---- bytes

-- as many bytes of two lists, which have the same there
pub same_at : (a b : List ℕ) (p q n : ℕ) → p + n ≤ length a → q + n ≤ length b
    → ((i : ℕ) → i < n → get_or a (p + i) 0 ≡ get_or b (q + i) 0) → bytes_at a p n ≡ bytes_at b q n
same_at a b p q n r s same =
    ext_get_or 0 (bytes_at a p n) (bytes_at b q n) (length-bytes_at a p n r ∙ sym (length-bytes_at b q n s))
    (λ i h. let in_n : i < n = omega (arith, h, length-bytes_at a p n r) in
    get_or-bytes_at a p n i r in_n ∙ same i in_n ∙ sym (get_or-bytes_at b q n i s in_n))

-- a byte of a disk is one of its block
pub block_byte : (disk : List ℕ) (count i : ℕ) → length disk ≡ count * 4096 → i < length disk
    → get_or disk i 0 ≡ get_or (block_of disk (i / 4096)) (i - i / 4096 * 4096) 0
block_byte disk count i long inside =
    let place : i / 4096 * 4096 + (i - i / 4096 * 4096) ≡ i = omega arith in
    sym (get_or-bytes_at disk (i / 4096 * 4096) 4096 (i - i / 4096 * 4096) (omega (arith, long, inside)) (omega arith)
    ∙ ap (λ n. get_or disk n 0) place)

-- disks with the same blocks
pub same_disk : (a b : List ℕ) (count : ℕ) → length a ≡ count * 4096 → length b ≡ count * 4096
    → ((block : ℕ) → block < count → block_of a block ≡ block_of b block) → a ≡ b
same_disk a b count p q same = ext_get_or 0 a b (p ∙ sym q) (λ i h.
    let in_b : i < length b = omega (arith, h, p, q) in
    let inside : i / 4096 < count = omega (arith, h, p) in
    block_byte a count i p h ∙ ap (λ d. get_or d (i - i / 4096 * 4096) 0) (same (i / 4096) inside) ∙ sym (block_byte b count i q in_b))

-- ---- blocks of a head

module _ (node : Node) (first : ℕ) (bytes : List ℕ) (count blocks : ℕ) (chained : IsChained node count)
    (whole : length bytes ≡ blocks * 4096) (inside : first + blocks ≤ count) where
  many : length bytes / 4096 ≡ blocks
  many = omega (arith, whole)

  room : first * 4096 + length bytes ≤ length node.disk
  room = omega (arith, chained.head.size, whole, inside)

  abbrev disk : List ℕ
  disk = with_bytes_at node.disk (first * 4096) bytes

  long : length disk ≡ count * 4096
  long = length-put node.disk (first * 4096) bytes room ∙ chained.head.size

  own_at : (block : ℕ) → block < count → has_own (own_with node.own first (length bytes / 4096))
      block ≡ (is_among first blocks block || has_own node.own block)
  own_at block h =
      listed-at (λ b. is_among first (length bytes / 4096) b || has_own node.own b) (length node.own) block
      (omega (arith, h, chained.head.blocks))
      ∙ ap (λ m. is_among first m block || has_own node.own block) many

  among_not : (block : ℕ) → (block < first) ⊎ (first + blocks ≤ block) → is_among first blocks block ≡ false
  among_not block (inl h) = grind (arith, nat_tests, h)
  among_not block (inr h) = grind (arith, nat_tests, h)

  among : (block : ℕ) → first ≤ block → block < first + blocks → is_among first blocks block ≡ true
  among block h i = grind (arith, nat_tests, h, i)

  -- the head has the blocks that are put
  pub put_inside : HasPut (put_at node first bytes) first blocks bytes
  put_inside block h i =
      let there : has_own (own_with node.own first (length bytes / 4096)) block ≡ true =
      own_at block (omega (arith, i, inside)) ∙ ap (λ b. b || has_own node.own block) (among block h i) in
      ap (λ b. cond b (Some (block_of disk block)) None) there
      ∙ ap (λ b. Some b) (same_at disk bytes (block * 4096) ((block - first) * 4096) 4096 (omega (arith, long, i, inside))
      (omega (arith, whole, h, i))
      (λ k in_block.
      let place : block * 4096 + k - first * 4096 ≡ (block - first) * 4096 + k = omega (arith, h) in
      get_or-put_in node.disk (first * 4096) bytes (block * 4096 + k) 0 room (omega (arith, h)) (omega (arith, i, whole, in_block))
      ∙ ap (λ n. get_or bytes n 0) place))

  -- and else those that it had
  pub put_outside : (block : ℕ) → (block < first) ⊎ (first + blocks ≤ block)
      → head_block (put_at node first bytes) block ≡ head_block node block
  put_outside block out = ⊎_elim
      (λ h.
      let same : block_of disk block ≡ block_of node.disk block =
      same_at disk node.disk (block * 4096) (block * 4096) 4096 (omega (arith, long, h))
      (omega (arith, chained.head.size, h)) (λ k in_block. byte out k in_block) in
      ap (λ b. cond b (Some (block_of disk block)) None) (own_at block h ∙ ap (λ b. b || has_own node.own block) (among_not block out))
      ∙ ap (λ d. cond (has_own node.own block) (Some d) None) same)
      (λ past.
      ap (λ b. cond b (Some (block_of disk block)) None)
      (listed-past (λ b. is_among first (length bytes / 4096) b || has_own node.own b) (length node.own) block
      (omega (arith, past, chained.head.blocks)))
      ∙ sym (ap (λ b. cond b (Some (block_of node.disk block)) None)
      (get_or_past node.own block false (omega (arith, past, chained.head.blocks)))))
      (cases_lt block count)
    where
      byte : (block < first) ⊎ (first + blocks ≤ block) → (k : ℕ) → k < 4096
          → get_or disk (block * 4096 + k) 0 ≡ get_or node.disk (block * 4096 + k) 0
      byte (inl h) k i = get_or-put_out node.disk (first * 4096) bytes (block * 4096 + k) 0 room (λ g. absurd (omega (arith, h, i, g)))
      byte (inr h) k i = get_or-put_out node.disk (first * 4096) bytes (block * 4096 + k) 0 room (λ g. omega (arith, h, i, whole))
