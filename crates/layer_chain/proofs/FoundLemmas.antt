-- Where a block is found: one layer of a search down a chain, and how many layers are older than each of it.
use Rattle.std.proofs.Common.{◌≡◌, ◌≢◌, ⊎_elim, ℕ, suc, ◌+◌, ◌-◌, ◌<◌, ◌≤◌, true, false, Bool, List, [], ◌∷◌, ◌++◌, length, map}
use Rattle.std.proofs.Common.{get_or, drop, Option, None, Some, is_some, nat_lt, cond, All, subst, sym, refl, ap, ◌∙◌, arith}
use Rattle.std.proofs.lemmas.List.Elements.{All-nil, All-cons}
use Rattle.std.proofs.lemmas.List.{length-map, length-drop, drop_more, drop_all, append_assoc}
use Rattle.std.specs.Option.{option_or}
use Rattle.sparse_image.specs.Image.{Tables, block_at}
use Rattle.vol_units.specs.Chain.{is_named, chain_from}
use Rattle.layer_chain.specs.Tree.{Tree, name_of, parent_of, layer_at, reads, head_reads}
use Rattle.layer_chain.specs.Found.{images_from, head_images, first_true, having, found_at, ages_from, images_of}
use Rattle.layer_chain.specs.declared.layer.Layer.{Layer}
use Rattle.layer_chain.proofs.ReadLaws.{cases_named, read-same, read-other}
use Rattle.layer_chain.proofs.ChainLaws.{chain-same, chain-other, ages-same, ages-other, length-ages}

-- ---- the first that passes a test

-- one that does not is passed over
pub first-next : {X : Type 0} (test : X → Bool) (xs : List X) (i : ℕ) (x : X) → i < length xs → test (get_or xs i x) ≡ false
    → first_true (map test (drop i xs)) ≡ first_true (map test (drop (i + 1) xs))
first-next test xs i x h fails =
    ap (λ ys. first_true (map test ys)) (drop_more xs i x h)
    ∙ ap (λ (b : Bool). first_true (b ∷ map test (drop (i + 1) xs))) fails

pub first-most : (bs : List Bool) → first_true bs ≤ length bs
first-most [] = omega arith
first-most (true ∷ bs) = omega arith
first-most (false ∷ bs) = omega (arith, first-most bs)

-- ---- how many layers are older

ages-step : (xs : List Layer) (i : ℕ) (x : Layer) (want : Option (List ℕ)) → i < length xs → x ≡ get_or xs i x
    → ages_from (drop i xs) want ≡ cond (is_named want (name_of x))
    ((length xs - 1 - i) ∷ ages_from (drop (i + 1) xs) (parent_of x)) (ages_from (drop (i + 1) xs) want)
ages-step xs i x want within is =
    let older : length (drop (i + 1) xs) ≡ length xs - 1 - i = length-drop (i + 1) xs ∙ omega arith in
    ap (λ (ys : List Layer). ages_from ys want) (drop_more xs i x within ∙ ap (λ (y : Layer). y ∷ drop (i + 1) xs) (sym is))
    ∙ ap (λ (n : ℕ). cond (is_named want (name_of x)) (n ∷ ages_from (drop (i + 1) xs) (parent_of x))
    (ages_from (drop (i + 1) xs) want)) older

module _ (xs : List Layer) (i : ℕ) (x : Layer) (want : Option (List ℕ)) (within : i < length xs) (is : x ≡ get_or xs i x) where
  pub ages-here : (front : List ℕ) → is_named want (name_of x) ≡ true
      → (front ++ ((length xs - 1 - i) ∷ [])) ++ ages_from (drop (i + 1) xs) (parent_of x) ≡ front ++ ages_from (drop i xs) want
  ages-here front named =
      append_assoc front ((length xs - 1 - i) ∷ []) (ages_from (drop (i + 1) xs) (parent_of x))
      ∙ ap (λ (ns : List ℕ). front ++ ns) (sym (ages-step xs i x want within is
      ∙ ap (λ b. cond b ((length xs - 1 - i) ∷ ages_from (drop (i + 1) xs) (parent_of x)) (ages_from (drop (i + 1) xs) want)) named))

  pub ages-past : (front : List ℕ) → is_named want (name_of x) ≡ false
      → front ++ ages_from (drop (i + 1) xs) want ≡ front ++ ages_from (drop i xs) want
  ages-past front named =
      ap (λ (ns : List ℕ). front ++ ns) (sym (ages-step xs i x want within is
      ∙ ap (λ b. cond b ((length xs - 1 - i) ∷ ages_from (drop (i + 1) xs) (parent_of x)) (ages_from (drop (i + 1) xs) want)) named))

pub ages-end : (xs : List Layer) (i : ℕ) (want : Option (List ℕ)) → length xs ≤ i → ages_from (drop i xs) want ≡ []
ages-end xs i want h = ap (λ (ys : List Layer). ages_from ys want) (drop_all i xs h)

-- ---- the images of a chain

images-same : (x : Layer) (older : List Layer) (want : Option (List ℕ)) → want ≡ Some (name_of x)
    → images_from (x ∷ older) want ≡ x.image ∷ images_from older (parent_of x)
images-same x older want e = ap (map (λ (l : Layer). l.image)) (chain-same name_of parent_of want x older e)

pub images-other : (x : Layer) (older : List Layer) (want : Option (List ℕ)) → want ≢ Some (name_of x)
    → images_from (x ∷ older) want ≡ images_from older want
images-other x older want n = ap (map (λ (l : Layer). l.image)) (chain-other name_of parent_of want x older n)

pub length-images : (xs : List Layer) (want : Option (List ℕ)) → length (images_from xs want) ≡ length (ages_from xs want)
length-images xs want =
    length-map (chain_from name_of parent_of xs want) (λ (l : Layer). l.image) ∙ sym (length-ages name_of parent_of xs want)

-- each age is that of a layer
pub older-all : (xs : List Layer) (want : Option (List ℕ)) (n : ℕ) → length xs ≤ n → All (λ age. age < n) (ages_from xs want)
older-all [] want n h = All-nil (λ age. age < n)
older-all (x ∷ xs) want n h =
    ⊎_elim
    (λ e. subst (All (λ age. age < n)) (sym (ages-same name_of parent_of want x xs e))
    (All-cons (λ age. age < n) (length xs) (ages_from xs (parent_of x)) (omega (arith, h))
    (older-all xs (parent_of x) n (omega (arith, h)))))
    (λ o. subst (All (λ age. age < n)) (sym (ages-other name_of parent_of want x xs o)) (older-all xs want n (omega (arith, h))))
    (cases_named want (name_of x))

-- a newer layer changes no age
images-newer : (x : Layer) (xs : List Layer) (ages : List ℕ) → All (λ age. age < length xs) ages
    → images_of (x ∷ xs) ages ≡ images_of xs ages
images-newer x xs [] below = refl
images-newer x xs (age ∷ ages) below =
    let first : age < length xs = below 0 0 (omega arith) in
    let place : length (x ∷ xs) - 1 - age ≡ suc (length xs - 1 - age) = omega (arith, first) in
    ap (λ n. (layer_at (x ∷ xs) n).image ∷ images_of (x ∷ xs) ages) place
    ∙ ap (λ is. (layer_at xs (length xs - 1 - age)).image ∷ is) (images-newer x xs ages (λ k d h. below (suc k) d (omega (arith, h))))

-- the layers of a chain are those of its ages
pub images-aged : (xs : List Layer) (want : Option (List ℕ)) → images_of xs (ages_from xs want) ≡ images_from xs want
images-aged [] want = refl
images-aged (x ∷ xs) want =
    let first : length (x ∷ xs) - 1 - length xs ≡ 0 = omega arith in
    ⊎_elim
    (λ e. ap (images_of (x ∷ xs)) (ages-same name_of parent_of want x xs e)
    ∙ ap (λ n. (layer_at (x ∷ xs) n).image ∷ images_of (x ∷ xs) (ages_from xs (parent_of x))) first
    ∙ ap (λ is. x.image ∷ is) (images-newer x xs (ages_from xs (parent_of x)) (older-all xs (parent_of x) (length xs) (omega arith))
    ∙ images-aged xs (parent_of x))
    ∙ sym (images-same x xs want e))
    (λ o. ap (images_of (x ∷ xs)) (ages-other name_of parent_of want x xs o)
    ∙ images-newer x xs (ages_from xs want) (older-all xs want (length xs) (omega arith)) ∙ images-aged xs want
    ∙ sym (images-other x xs want o))
    (cases_named want (name_of x))

-- ---- what a chain reads as

-- the block of the first image that has it
abbrev read_first : List Tables → ℕ → Option (List ℕ)
read_first [] block = None
read_first (i ∷ below) block = option_or (block_at i block) (read_first below block)

chain_reads : (xs : List Layer) (want : Option (List ℕ)) (block : ℕ) → reads xs want block ≡ read_first (images_from xs want) block
unfolding Rattle.layer_chain.specs.Layers.read_layers
chain_reads [] want block = refl
chain_reads (x ∷ xs) want block =
    ⊎_elim
    (λ e. read-same name_of parent_of (λ (l : Layer). block_at l.image block) want x xs e
    ∙ ap (option_or (block_at x.image block)) (chain_reads xs (parent_of x) block)
    ∙ sym (ap (λ (is : List Tables). read_first is block) (images-same x xs want e)))
    (λ n. read-other name_of parent_of (λ (l : Layer). block_at l.image block) want x xs n ∙ chain_reads xs want block
    ∙ sym (ap (λ (is : List Tables). read_first is block) (images-other x xs want n)))
    (cases_named want (name_of x))

head_chain : (t : Tree) (block : ℕ) → head_reads t block ≡ read_first (head_images t) block
head_chain t block = ap (option_or (block_at t.head block)) (chain_reads t.layers t.on block)

-- the first image that has the block has that which is read
first_step : (i : Tables) (below : List Tables) (block index : ℕ) (own : Option (List ℕ)) → block_at i block ≡ own
    → index ≡ first_true (is_some own ∷ having below block)
    → (index ≡ first_true (having below block) → read_first below block ≡ block_at (get_or below (length below - index) []) block)
    → option_or own (read_first below block) ≡ block_at (get_or (i ∷ below) (length (i ∷ below) - index) []) block
first_step i below block index (Some b) is e rest =
    let top : length (i ∷ below) - index ≡ 0 = omega (arith, e, length-map below (λ (x : Tables). is_some (block_at x block))) in
    sym is ∙ sym (ap (λ n. block_at (get_or (i ∷ below) n []) block) top)
first_step i below block index None is e rest =
    let few : index ≤ length below =
    omega (arith, e, first-most (having below block), length-map below (λ (x : Tables). is_some (block_at x block))) in
    let lower : length (i ∷ below) - index ≡ suc (length below - index) = omega (arith, few) in
    rest e ∙ sym (ap (λ n. block_at (get_or (i ∷ below) n []) block) lower)

first_reads : (images : List Tables) (block index : ℕ) → index ≡ first_true (having images block) → index ≢ 0
    → read_first images block ≡ block_at (get_or images (length images - index) []) block
first_reads [] block index e n = absurd (n e)
first_reads (i ∷ below) block index e n =
    first_step i below block index (block_at i block) refl e (λ f. first_reads below block index f n)

some_step : (own below : Option (List ℕ)) (bs : List Bool) → is_some below ≡ nat_lt 0 (first_true bs)
    → is_some (option_or own below) ≡ nat_lt 0 (first_true (is_some own ∷ bs))
some_step (Some b) below bs rest = grind arith
some_step None below bs rest = rest

some_reads : (images : List Tables) (block : ℕ) → is_some (read_first images block) ≡ nat_lt 0 (first_true (having images block))
some_reads [] block = refl
some_reads (i ∷ below) block =
    some_step (block_at i block) (read_first below block) (having below block) (some_reads below block)

-- what the head reads is in the image of the index at which it is found
pub found_reads : (t : Tree) (block index : ℕ) → index ≡ found_at t block → index ≢ 0
    → head_reads t block ≡ block_at (get_or (head_images t) (length (head_images t) - index) []) block
found_reads t block index e n = head_chain t block ∙ first_reads (head_images t) block index e n

-- it is found exactly where the head reads a block
pub found_some : (t : Tree) (block : ℕ) → is_some (head_reads t block) ≡ nat_lt 0 (found_at t block)
found_some t block = ap is_some (head_chain t block) ∙ some_reads (head_images t) block

pub found_most : (t : Tree) (block : ℕ) → found_at t block ≤ length (head_images t)
found_most t block =
    omega (arith, first-most (having (head_images t) block), length-map (head_images t) (λ (x : Tables). is_some (block_at x block)))
