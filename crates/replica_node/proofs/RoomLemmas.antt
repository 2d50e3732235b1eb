-- The places that are made in the head of a replica.
use Rattle.std.proofs.Common.{◌≡◌, ⊎_elim, ℕ, ◌*◌, ◌/◌, ◌<◌, ◌≤◌, Bool, true, false, ◌||◌, List, length, get_or, map}
use Rattle.std.proofs.Common.{Result, Ok, Err, OnOk, OnErr, is_some, sym, ap, subst, ◌∙◌, arith}
use Rattle.std.proofs.lemmas.Bool.{false≢true, cases_lt}
use Rattle.std.proofs.lemmas.Bool.Decides.{nat_tests}
use Rattle.std.proofs.lemmas.List.{get_or_past}
use Rattle.std.proofs.Math.Bool.{or-true}
use Rattle.std.specs.Option.{option_or}
use Rattle.vol_units.specs.Range.{HasBlock}
use Rattle.vol_units.specs.declared.range.BlockRange.{BlockRange}
use Rattle.sparse_image.specs.Disk.{bytes_of}
use Rattle.sparse_image.specs.Image.{Tables, block_at, has_page, is_page_of, MakesPages}
use Rattle.sparse_image.proofs.DiskLemmas.{joined-same}
use Rattle.layer_chain.specs.Changes.{with_head}
use Rattle.layer_chain.specs.Tree.{Tree, reads, head_reads}
use Rattle.sparse_image.specs.Listed.{listed}
use Rattle.replica_node.specs.Node.{Node, node_of, kept_in, head_disk, own_in, made_in, has_own, IsNode}
use Rattle.replica_node.specs.Room.{HasRoom, KeepsRoom, room_with, with_room, with_room_of, HasPages}
use Rattle.sparse_image.proofs.ListedLemmas.{listed-at, listed-same}
use Rattle.replica_node.proofs.NodeLemmas.{length-made_in, same_parts}
use Rattle.replica_node.proofs.ReadLemmas.{length-node}

made_at : (image : Tables) (count block : ℕ) → block < count → get_or (made_in image count) block false ≡ has_page image (block / 512)
made_at image count block inside = listed-at (λ k. has_page image (k / 512)) count block inside

pub end_within : (t : Tree) (count : ℕ) (node : Node) (end : ℕ) → node_of t count ≡ node → IsNode t count
    → end * 4096 ≤ length node.disk → end ≤ count
end_within t count node end view n inside = omega (arith, length-node t count node view n)

-- room of the replica is room of the tree
pub has_pages : (t : Tree) (count : ℕ) (node : Node) (range : BlockRange) → node_of t count ≡ node → range.end ≤ count
    → HasRoom node range → HasPages t.head range
has_pages t count node range view inside room = λ block is.
    sym (made_at t.head count block (omega (arith, is.1))) ∙ subst (λ x. HasRoom x range) (sym view) room block is

-- pages that are made in the head of a tree are made in the replica
pub made_node : (old new : Tree) (count : ℕ) (node : Node) (range : BlockRange) → node_of old count ≡ node → new ≡ with_head old new.head
    → MakesPages old.head new.head (is_page_of range) → node_of new count ≡ with_room node range
made_node old new count node range view rest makes =
    let after = λ (k : ℕ). is_page_of range (k / 512) || has_own (made_in old.head count) k in
    let reads_same : (k : ℕ) → head_reads new k ≡ head_reads old k =
    λ k. ap (λ t. head_reads t k) rest ∙ ap (λ b. option_or b (reads old.layers old.on k)) (makes.blocks k) in
    let disk : head_disk new count ≡ head_disk old count =
    joined-same (λ k. bytes_of (head_reads old k)) (λ k. bytes_of (head_reads new k)) count (λ k h. ap bytes_of (reads_same k)) in
    let room : made_in new.head count ≡ room_with (made_in old.head count) range =
    listed-same (λ k. has_page new.head (k / 512)) after count
    (λ k h. makes.pages (k / 512) ∙ ap (λ b. is_page_of range (k / 512) || b) (sym (made_at old.head count k h)))
    ∙ ap (listed after) (sym (length-made_in old.head count)) in
    let own : own_in new.head count ≡ own_in old.head count =
    listed-same (λ k. is_some (block_at new.head k)) (λ k. is_some (block_at old.head k)) count (λ k h. ap is_some (makes.blocks k)) in
    same_parts (ap (λ t. map (kept_in t.layers count) t.layers) rest) (ap (λ t. t.on) rest) (ap (λ t. t.number) rest) disk room own
    ∙ ap (λ x. with_room x range) view

-- ---- what room that is made is good for

page_of_block : (range : BlockRange) (block : ℕ) → HasBlock range block → is_page_of range (block / 512) ≡ true
page_of_block range block is = grind (arith, nat_tests)

room_at : (room : List Bool) (range : BlockRange) (block : ℕ) → block < length room
    → get_or (room_with room range) block false ≡ (is_page_of range (block / 512) || has_own room block)
room_at room range block inside = listed-at (λ k. is_page_of range (k / 512) || has_own room k) (length room) block inside

-- a write of the range finds its places
pub room_made : (node new : Node) (range : BlockRange) → range.end ≤ length node.room → new ≡ with_room node range → HasRoom new range
room_made node new range inside is = subst (λ n. HasRoom n range) (sym is) (λ block within.
    room_at node.room range block (omega (arith, within.1)) ∙ ap (λ b. b || has_own node.room block) (page_of_block range block within))

-- places that were made are made
room_kept : (node : Node) (range : BlockRange) → KeepsRoom node (with_room node range)
room_kept node range = λ block made.
    ⊎_elim
    (λ inside. room_at node.room range block inside ∙ ap (λ b. is_page_of range (block / 512) || b) made
    ∙ or-true (is_page_of range (block / 512)))
    (λ past. absurd (false≢true (sym (get_or_past node.room block false past) ∙ made)))
    (cases_lt block (length node.room))

-- the same of an answer
pub answer_kept : {T E : Type 0} (r : Result T E) (node new : Node) (range : BlockRange)
    → OnOk r (new ≡ with_room node range) → OnErr r (new ≡ node) → KeepsRoom node new
answer_kept (Ok x) node new range made same = subst (KeepsRoom node) (sym made) (room_kept node range)
answer_kept (Err e) node new range made same = subst (KeepsRoom node) (sym same) (λ block is. is)

-- and nothing else is new
pub answer_same : {T E : Type 0} (r : Result T E) (node new : Node) (range : BlockRange)
    → OnOk r (new ≡ with_room node range) → OnErr r (new ≡ node) → new ≡ with_room_of node new
answer_same (Ok x) node new range made same = made ∙ ap (λ n. with_room_of node n) (sym made)
answer_same (Err e) node new range made same = same ∙ ap (λ n. with_room_of node n) (sym same)
