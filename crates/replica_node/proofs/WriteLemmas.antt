-- Blocks that are put into the head of a replica.
use Rattle.std.proofs.Common.{◌≡◌, ◌≢◌, ⊎_elim, ℕ, ◌+◌, ◌*◌, ◌/◌, ◌<◌, ◌≤◌, Bool, true, false, cond, ◌||◌, List}
use Rattle.std.proofs.Common.{[], ◌∷◌, ◌++◌, length, take, drop, get_or, map, Option, None, Some, is_some, refl, sym}
use Rattle.std.proofs.Common.{ap, subst, ◌∙◌, arith, append-nil, add-one, length-append, lit<}
use Rattle.std.proofs.lemmas.Bool.{false≢true, cases_eq}
use Rattle.std.proofs.lemmas.Bool.Decides.{nat_tests}
use Rattle.std.specs.List.{All, flat_map}
use Rattle.std.specs.Option.{option_or, option_map}
use Rattle.std.proofs.lemmas.Grind.{flat_map-append}
use Rattle.std.proofs.Math.Seq.{take-suc}
use Rattle.std.proofs.lemmas.List.{take-append-drop, length-take-le}
use Rattle.vol_units.specs.Bytes.{bytes_at, with_bytes_at}
use Rattle.vol_units.proofs.BytesLemmas.{with_bytes_at-append, length-with_bytes_at}
use Rattle.sparse_image.specs.Image.{Tables, block_at, has_page, ChangesBlock}
use Rattle.sparse_image.specs.Disk.{bytes_of}
use Rattle.sparse_image.proofs.DiskLemmas.{joined-changed, length-joined}
use Rattle.layer_chain.specs.Tree.{Tree, reads, head_reads}
use Rattle.layer_chain.specs.Changes.{with_head}
use Rattle.sparse_image.specs.Listed.{listed, bytes_in}
use Rattle.replica_node.specs.Node.{Node, node_of, head_disk, has_own, own_in, made_in, kept_in, IsNode}
use Rattle.replica_node.specs.Room.{PutsBlocks, put_at, is_among, own_with, head_block, head_blocks}
use Rattle.sparse_image.proofs.ListedLemmas.{listed-at, listed-same}
use Rattle.replica_node.proofs.MadeLemmas.{made_changed, made_there}
use Rattle.replica_node.proofs.NodeLemmas.{HasPages, length-own_in, same_parts}
use Rattle.replica_node.proofs.OwnLemmas.{own_at}
use Rattle.replica_node.proofs.ReadLemmas.{node_block, length-node}

-- one block is put
pub record PutsBlock (old new : Tree) (block : ℕ) (b : Option (List ℕ)) : Type 0 where
  pub full : is_some b ≡ true
  pub page : has_page old.head (block / 512) ≡ true
  pub changes : ChangesBlock old.head new.head block b
  pub rest : new ≡ with_head old new.head
  pub whole : length (bytes_of b) ≡ 4096

some_over : (b below : Option (List ℕ)) → is_some b ≡ true → option_or b below ≡ b
some_over None below full = absurd (false≢true full)
some_over (Some b) below full = refl

layers_same : (old new : Tree) → new ≡ with_head old new.head → new.layers ≡ old.layers
layers_same old new rest = ap (λ t. t.layers) rest

on_same : (old new : Tree) → new ≡ with_head old new.head → new.on ≡ old.on
on_same old new rest = ap (λ t. t.on) rest

read_here : (old new : Tree) (block : ℕ) (b : Option (List ℕ)) → PutsBlock old new block b → head_reads new block ≡ b
read_here old new block b p =
    ap (λ o. option_or o (reads new.layers new.on block)) p.changes.here ∙ some_over b (reads new.layers new.on block) p.full

read_elsewhere : (old new : Tree) (block : ℕ) (b : Option (List ℕ)) → PutsBlock old new block b → (k : ℕ) → k ≢ block
    → head_reads new k ≡ head_reads old k
read_elsewhere old new block b p k other =
    both (p.changes.others k other) (layers_same old new p.rest) (on_same old new p.rest)
  where
    both : {a c : Option (List ℕ)} → a ≡ c → new.layers ≡ old.layers → new.on ≡ old.on
        → option_or a (reads new.layers new.on k) ≡ option_or c (reads old.layers old.on k)
    both {c = c} p q r = ap (λ o. option_or o (reads new.layers new.on k)) p
        ∙ ap (λ ls. option_or c (reads ls new.on k)) q ∙ ap (λ n. option_or c (reads old.layers n k)) r

pub put_node : (old new : Tree) (count block : ℕ) (b : Option (List ℕ)) → IsNode old count → PutsBlock old new block b → IsNode new count
put_node old new count block b n p = record {
  pages = ap (λ l. l * 512) p.changes.count ∙ n.pages;
  made = made_changed old.head new.head block b p.changes p.page n.made;
  images = subst (All (HasPages count)) (sym (layers_same old new p.rest)) n.images;
  layers = λ want k. ap (λ ls. length (bytes_of (reads ls want k))) (layers_same old new p.rest) ∙ n.layers want k;
  head = λ k. ⊎_elim
      (λ here. ap (λ i. length (bytes_of (head_reads new i))) here ∙ ap (λ o. length (bytes_of o)) (read_here old new block b p) ∙ p.whole)
      (λ other. ap (λ o. length (bytes_of o)) (read_elsewhere old new block b p k other) ∙ n.head k)
      (cases_eq k block);
}

pub put_disk : (old new : Tree) (count block : ℕ) (b : Option (List ℕ)) → IsNode old count → PutsBlock old new block b → block < count
    → head_disk new count ≡ with_bytes_at (head_disk old count) (block * 4096) (bytes_of b)
put_disk old new count block b n p inside =
    let disk = head_disk old count in
    joined-changed (λ k. bytes_of (head_reads old k)) (λ k. bytes_of (head_reads new k)) count block inside n.head
    (λ k other. ap bytes_of (read_elsewhere old new block b p k other))
    ∙ ap (λ o. take (block * 4096) disk ++ bytes_of o ++ drop (block * 4096 + 4096) disk) (read_here old new block b p)
    ∙ ap (λ m. take (block * 4096) disk ++ bytes_of b ++ drop (block * 4096 + m) disk) (sym p.whole)

-- ---- which blocks the head itself has

among_none : (first k : ℕ) → is_among first 0 k ≡ false
among_none first k = grind (arith, nat_tests)

among_here : (first i k : ℕ) → k ≡ first + i → is_among first (i + 1) k ≡ true
among_here first i k here = grind (arith, nat_tests)

among_elsewhere : (first i k : ℕ) → k ≢ first + i → is_among first (i + 1) k ≡ is_among first i k
among_elsewhere first i k other = grind (arith, nat_tests)

not_among : (first i k : ℕ) → is_among first (i + 1) k ≡ false → k ≢ first + i
not_among first i k apart here = false≢true (sym apart ∙ among_here first i k here)

not_before : (first i k : ℕ) → is_among first (i + 1) k ≡ false → is_among first i k ≡ false
not_before first i k apart = sym (among_elsewhere first i k (not_among first i k apart)) ∙ apart

-- the next block is none of those before
pub among_next : (first i : ℕ) → is_among first i (first + i) ≡ false
among_next first i = grind (arith, nat_tests)

-- one block more is there, where so many were
one_own : (old new : Tree) (start : ℕ → Bool) (first i : ℕ) (b : Option (List ℕ)) → PutsBlock old new (first + i) b
    → ((k : ℕ) → is_some (block_at old.head k) ≡ (is_among first i k || start k))
    → (k : ℕ) → is_some (block_at new.head k) ≡ (is_among first (i + 1) k || start k)
one_own old new start first i b p so_far k = ⊎_elim
    (λ here. ap (λ n. is_some (block_at new.head n)) here ∙ ap is_some p.changes.here ∙ p.full
    ∙ ap (λ t. t || start k) (sym (among_here first i k here)))
    (λ other. ap is_some (p.changes.others k other) ∙ so_far k ∙ ap (λ t. t || start k) (sym (among_elsewhere first i k other)))
    (cases_eq k (first + i))

-- the same as a list
put_own : (a b : Tables) (count first n : ℕ) → ((k : ℕ) → is_some (block_at b k) ≡ (is_among first n k || is_some (block_at a k)))
    → own_in b count ≡ own_with (own_in a count) first n
put_own a b count first n own =
    let after = λ (k : ℕ). is_among first n k || has_own (own_in a count) k in
    listed-same (λ k. is_some (block_at b k)) after count
    (λ k h. own k ∙ ap (λ t. is_among first n k || t) (sym (listed-at (λ i. is_some (block_at a i)) count k h)))
    ∙ ap (listed after) (sym (length-own_in a count))

-- ---- many blocks

nothing_put : (disk : List ℕ) (at : ℕ) → disk ≡ with_bytes_at disk at []
nothing_put disk at = sym (
    ap (λ l. l ++ drop (at + 0) disk) (append-nil (take at disk))
    ∙ ap (λ n. take at disk ++ drop n disk) (plus_none at)
    ∙ take-append-drop at disk
    )
  where
    plus_none : (n : ℕ) → n + 0 ≡ n
    plus_none n = omega arith

-- nothing is put yet
pub none_put : (t : Tree) (first : ℕ) → IsNode t (length t.head * 512) → PutsBlocks t t first []
none_put t first n = record {
  rest = refl;
  pages = λ page. refl;
  others = λ k apart. refl;
  own = λ k. sym (ap (λ b. b || is_some (block_at t.head k)) (among_none first k));
  whole = refl;
  node = n;
  disk = nothing_put (head_disk t (length t.head * 512)) (first * 4096);
}

-- one block more is put
pub one_put : (start old new : Tree) (first i : ℕ) (blocks : List (Option (List ℕ))) (b : Option (List ℕ))
    → PutsBlocks start old first (take i blocks)
    → i < length blocks → get_or blocks i b ≡ b → first + length blocks ≤ length start.head * 512
    → IsNode start (length start.head * 512) → PutsBlock old new (first + i) b → PutsBlocks start new first (take (i + 1) blocks)
one_put start old new first i blocks b so_far inside is room n p =
    let count = length start.head * 512 in
    let before : length (take i blocks) ≡ i = length-take-le i blocks (omega arith) in
    let after : length (take (i + 1) blocks) ≡ i + 1 = length-take-le (i + 1) blocks (omega arith) in
    let len : length (bytes_in (take i blocks)) ≡ i * 4096 = so_far.whole ∙ ap (λ m. m * 4096) before in
    let more : take (i + 1) blocks ≡ take i blocks ++ b ∷ [] =
    ap (λ m. take m blocks) (add-one i) ∙ take-suc blocks i b inside ∙ ap (λ x. take i blocks ++ x ∷ []) is in
    let bytes : bytes_in (take (i + 1) blocks) ≡ bytes_in (take i blocks) ++ bytes_of b =
    ap (flat_map bytes_of) more ∙ flat_map-append bytes_of (take i blocks) (b ∷ [])
    ∙ ap (λ l. bytes_in (take i blocks) ++ l) (append-nil (bytes_of b)) in
    let disk_len : length (head_disk start count) ≡ count * 4096 = length-joined (λ k. bytes_of (head_reads start k)) count n.head in
    record {
      rest = p.rest ∙ ap (λ t. with_head t new.head) so_far.rest;
      pages = λ page. p.changes.pages page ∙ so_far.pages page;
      others = λ k apart. let a : is_among first (i + 1) k ≡ false = ap (λ m. is_among first m k) (sym after) ∙ apart in
          p.changes.others k (not_among first i k a) ∙ so_far.others k (ap (λ m. is_among first m k) before ∙ not_before first i k a);
      own = λ k. one_own old new (λ j. is_some (block_at start.head j)) first i b p
          (λ j. so_far.own j ∙ ap (λ m. is_among first m j || is_some (block_at start.head j)) before) k
          ∙ ap (λ m. is_among first m k || is_some (block_at start.head k)) (sym after);
      whole = ap length bytes ∙ length-append (bytes_in (take i blocks)) (bytes_of b) ∙ omega (arith, len, p.whole, after);
      node = put_node old new count (first + i) b so_far.node p;
      disk = put_disk old new count (first + i) b so_far.node p (omega arith)
          ∙ ap (λ d. with_bytes_at d ((first + i) * 4096) (bytes_of b)) so_far.disk
          ∙ with_bytes_at-append (head_disk start count) (first * 4096) (bytes_in (take i blocks)) (bytes_of b) ((first + i) * 4096)
          (omega (arith, len, disk_len)) (omega (arith, len))
          ∙ ap (with_bytes_at (head_disk start count) (first * 4096)) (sym bytes);
    }

-- the same places are made
same_room : (a b : Tables) (count : ℕ) → ((page : ℕ) → has_page b page ≡ has_page a page) → made_in b count ≡ made_in a count
same_room a b count same =
    listed-same (λ k. has_page b (k / 512)) (λ k. has_page a (k / 512)) count (λ k h. same (k / 512))

-- what is put into a tree is put into the replica
pub put_blocks : (old new : Tree) (count : ℕ) (node : Node) (first : ℕ) (blocks : List (Option (List ℕ)))
    → node_of old count ≡ node → IsNode old count
    → PutsBlocks old new first blocks → node_of new count ≡ put_at node first (bytes_in blocks)
put_blocks old new count node first blocks view n p =
    let disk : head_disk new count ≡ with_bytes_at (head_disk old count) (first * 4096) (bytes_in blocks) =
    subst (λ m. head_disk new m ≡ with_bytes_at (head_disk old m) (first * 4096) (bytes_in blocks)) n.pages p.disk in
    let kept : map (kept_in new.layers count) new.layers ≡ map (kept_in old.layers count) old.layers =
    ap (λ ls. map (kept_in ls count) ls) (layers_same old new p.rest) in
    let many : length (bytes_in blocks) / 4096 ≡ length blocks = omega (arith, p.whole) in
    let own : own_in new.head count ≡ own_with (own_in old.head count) first (length (bytes_in blocks) / 4096) =
    put_own old.head new.head count first (length blocks) p.own ∙ ap (own_with (own_in old.head count) first) (sym many) in
    same_parts kept (on_same old new p.rest) (ap (λ t. t.number) p.rest) disk (same_room old.head new.head count p.pages) own
    ∙ ap (λ x. put_at x first (bytes_in blocks)) view

-- ---- a part of a block that the head has

-- what is there is some block
some_block : (o : Option (List ℕ)) → is_some o ≡ true → (b : List ℕ) × (o ≡ Some b)
some_block None there = absurd (false≢true there)
some_block (Some b) there = (b, refl)

-- such a block is what the head reads as there
own_block : (t : Tree) (count : ℕ) (node : Node) (block : ℕ) (b : List ℕ) → node_of t count ≡ node → IsNode t count
    → block * 4096 < length node.disk
    → block_at t.head block ≡ Some b → b ≡ bytes_at node.disk (block * 4096) 4096
own_block t count node block b view n inside is =
    sym (ap (λ o. bytes_of (option_or o (reads t.layers t.on block))) is) ∙ node_block t count node None block view n tt inside

-- what the head of the tree has at a block is what the replica tells of it
pub head_block_is : (t : Tree) (count : ℕ) (node : Node) (block : ℕ) → node_of t count ≡ node → IsNode t count → block < count
    → block_at t.head block ≡ head_block node block
head_block_is t count node block view n inside = go (block_at t.head block) refl
  where
    own : has_own node.own block ≡ is_some (block_at t.head block)
    own = ap (λ x. has_own x.own block) (sym view) ∙ own_at t.head count block inside

    go : (o : Option (List ℕ)) → block_at t.head block ≡ o → block_at t.head block ≡ head_block node block
    go None is = is ∙ sym (ap (λ b. cond b (Some (bytes_at node.disk (block * 4096) 4096)) None) (own ∙ ap is_some is))
    go (Some b) is = is ∙ ap Some (own_block t count node block b view n (omega (arith, length-node t count node view n)) is)
        ∙ sym (ap (λ b. cond b (Some (bytes_at node.disk (block * 4096) 4096)) None) (own ∙ ap is_some is))

-- and the same of many
pub head_blocks_are : (t : Tree) (count : ℕ) (node : Node) (first many : ℕ) → node_of t count ≡ node → IsNode t count → first + many ≤ count
    → listed (λ i. block_at t.head (first + i)) many ≡ head_blocks node first many
head_blocks_are t count node first many view n inside =
    listed-same (λ i. block_at t.head (first + i)) (λ i. head_block node (first + i)) many
    (λ i h. head_block_is t count node (first + i) view n (omega arith))

-- a part of it is written over
puts_part : (old new : Tree) (count : ℕ) (block start : ℕ) (bytes b : List ℕ) → IsNode old count → block_at old.head block ≡ Some b
    → ChangesBlock old.head new.head block (option_map (λ x. with_bytes_at x start bytes) (block_at old.head block))
    → new ≡ with_head old new.head
    → start + length bytes ≤ 4096 → PutsBlock old new block (Some (with_bytes_at b start bytes))
puts_part old new count block start bytes b n is changes rest part =
    let whole : length b ≡ 4096 = sym (ap (λ o. length (bytes_of (option_or o (reads old.layers old.on block)))) is) ∙ n.head block in
    record {
      full = refl;
      page = made_there old.head block n.made (ap is_some is);
      changes = subst (λ o. ChangesBlock old.head new.head block (option_map (λ x. with_bytes_at x start bytes) o)) is changes;
      rest = rest;
      whole = length-with_bytes_at b start bytes (omega (arith, whole)) ∙ whole;
    }

-- one block that is put is a list of one
one_block : (old new : Tree) (count : ℕ) (node : Node) (block : ℕ) (b : List ℕ) → node_of old count ≡ node
    → IsNode old count → block < count
    → PutsBlock old new block (Some b) → node_of new count ≡ put_at node block b
one_block old new count node block b view n inside p =
    let all = length old.head * 512 in
    let whole : IsNode old all = subst (IsNode old) (sym n.pages) n in
    let first : block + 0 ≡ block = omega arith in
    let put : PutsBlocks old new block (Some b ∷ []) =
    one_put old old new block 0 (Some b ∷ []) (Some b) (none_put old block whole) (lit< tt) refl (omega (arith, n.pages)) whole
    (subst (λ k. PutsBlock old new k (Some b)) (sym first) p) in
    put_blocks old new count node block (Some b ∷ []) view n put ∙ ap (put_at node block) (append-nil b)

pub overwritten : (old new : Tree) (count : ℕ) (node : Node) (block start : ℕ) (bytes : List ℕ) (there : Bool)
    → node_of old count ≡ node → IsNode old count
    → block * 4096 < length node.disk → start + length bytes ≤ 4096 → there ≡ is_some (block_at old.head block) → there ≡ true
    → ChangesBlock old.head new.head block (option_map (λ x. with_bytes_at x start bytes) (block_at old.head block))
    → new ≡ with_head old new.head
    → (IsNode new count) × (node_of new count ≡ put_at node block (with_bytes_at (bytes_at node.disk (block * 4096) 4096) start bytes))
overwritten old new count node block start bytes there view n inside part is found changes rest =
    let o = some_block (block_at old.head block) (sym is ∙ found) in
    let p = puts_part old new count block start bytes o.0 n o.1 changes rest part in
    let within : block < count = omega (arith, length-node old count node view n) in (
      put_node old new count block (Some (with_bytes_at o.0 start bytes)) n p,
      one_block old new count node block (with_bytes_at o.0 start bytes) view n within p
          ∙ ap (λ b. put_at node block (with_bytes_at b start bytes)) (own_block old count node block o.0 view n inside o.1),
    )
