-- Lemmas on what a backup lists: none twice, what is listed of a page, the blocks of an array, and what is written of a list.
use Rattle.std.proofs.Common.{◌≡◌, ◌≢◌, ◌⊎◌, ℕ, zero, suc, ◌+◌, ◌-◌, ◌<◌, ◌≤◌, Bool, true, false, true≢false}
use Rattle.std.proofs.Common.{List, [], ◌∷◌, ◌++◌, map, length, take, drop, set, get_or, replicate, Option, None, Some, option_map}
use Rattle.std.proofs.Common.{inl, inr, refl, sym, ap, subst, ◌∙◌, arith, append_assoc, length-take}
use Rattle.std.proofs.Math.Seq.{drop-length}
use Rattle.std.proofs.lemmas.Bool.{eqb-true, eq-eqb}
use Rattle.std.proofs.lemmas.Bool.Decides.{eqb_tells}
use Rattle.std.proofs.lemmas.List.{append-nil, at_drop_more, at_drop_all, ext_get_or, get_or_read, get_or-take, length-map}
use Rattle.std.proofs.lemmas.List.{length-set, get_or-set_same, get_or-set_other}
use Rattle.std.proofs.lemmas.List.Folds.{Any-from_list_any, list_any_at}
use Rattle.std.proofs.lemmas.List.FromFn.{length-map-range_with_len, get_or-map-range_with_len}
use Rattle.std.specs.Prelude.{◌==◌}
use Rattle.std.specs.List.{list_any, range_with_len}
use Rattle.serde_json.specs.Data.{Data}
use Rattle.serde_json.specs.View.{view, items_view}
use Rattle.serde_json.specs.declared.value.Value.{Value}
use Rattle.backup_config.specs.BackupCfgs.{block_data}
use Rattle.backup_config.specs.Kinds.{block_in, and_blocks, blocks_of}
use Rattle.backup_config.specs.Lists.{listed_from, one_listed, AreOnce, checksum_at, pages_of, IsEntry}
use Rattle.backup_config.specs.declared.list.ListedBlock.{ListedBlock}

-- ---- none twice

-- that page is one of a block before that place
abbrev pub is_before : List ListedBlock → ℕ → ℕ → Bool
is_before listed j page = list_any (λ (b : ListedBlock). b.page == page) (take j listed)

-- a block's page is that of none before
abbrev pub IsFresh : List ListedBlock → ℕ → Type 0
IsFresh listed j = (i : ℕ) (d : ListedBlock) → i < j → j < length listed → (get_or listed i d).page ≢ (get_or listed j d).page

pub is_fresh : (listed : List ListedBlock) (j : ℕ) (b : ListedBlock) → j < length listed → b ≡ get_or listed j b
    → is_before listed j b.page ≡ false → IsFresh listed j
is_fresh listed j b within is none i d before low same =
    let here : b.page ≡ (get_or listed j d).page = ap (λ (o : ListedBlock). o.page) (get_or_read listed j b within is d) in
    let there : get_or (take j listed) i d ≡ get_or listed i d = get_or-take j listed i d before in
    let page : (get_or (take j listed) i d).page ≡ b.page = ap (λ (o : ListedBlock). o.page) there ∙ same ∙ sym here in
    let room : i < length (take j listed) = omega (arith, before, within, length-take j listed) in
    true≢false (sym (list_any_at _ (take j listed) i d room (eq-eqb _ _ page)) ∙ none)

pub not_fresh : (listed : List ListedBlock) (j : ℕ) (b : ListedBlock) → j < length listed → b ≡ get_or listed j b
    → is_before listed j b.page ≡ true → AreOnce listed → ⊥
not_fresh listed j b within is some once =
    let (k, o, low, at, same) = Any-from_list_any _ (take j listed) some in
    let before : k < j = omega (arith, low, length-take j listed) in
    let here : get_or listed j o ≡ b = sym (get_or_read listed j b within is o) in
    let there : get_or listed k o ≡ o = sym (get_or-take j listed k o before) ∙ at in
    once k j o before within
    (ap (λ (x : ListedBlock). x.page) there ∙ eqb-true _ _ same ∙ sym (ap (λ (x : ListedBlock). x.page) here))

-- ---- what is listed of a page

pub pages_length : (n : ℕ) (listed : List ListedBlock) → length (pages_of n listed) ≡ n
pages_length n listed = length-map-range_with_len (checksum_at listed) 0 n

pages_at : (n : ℕ) (listed : List ListedBlock) (i : ℕ) → i < n → get_or (pages_of n listed) i None ≡ checksum_at listed i
pages_at n listed i low = get_or-map-range_with_len (checksum_at listed) 0 n i i None low (omega arith)

-- no page is listed yet
none_listed : (n a : ℕ) → replicate n None ≡ map (checksum_at []) (range_with_len a n)
unfolding checksum_at
none_listed zero a = refl
none_listed (suc n) a = ap (λ xs. None ∷ xs) (none_listed n (a + 1))

pub pages_begin : (listed : List ListedBlock) (n : ℕ) → replicate n None ≡ pages_of n (drop (length listed - 0) listed)
pages_begin listed n = none_listed n 0 ∙ sym (ap (pages_of n) (ap (λ k. drop k listed) (omega arith) ∙ drop-length listed))

-- a block before the others
pub pages_set : (n : ℕ) (b : ListedBlock) (more : List ListedBlock) → b.page < n
    → set (pages_of n more) b.page (Some b.checksum) ≡ pages_of n (b ∷ more)
unfolding checksum_at
pages_set n b more within =
    let size : length (pages_of n more) ≡ n = pages_length n more in
    let old = pages_of n more in
    let new = set old b.page (Some b.checksum) in
    ext_get_or None new (pages_of n (b ∷ more)) (length-set old b.page (Some b.checksum) ∙ size ∙ sym (pages_length n (b ∷ more)))
    (λ i low. at i (omega (arith, low, size, length-set old b.page (Some b.checksum))) (eqb_tells b.page i))
  where
    at : (i : ℕ) → i < n → ((b.page == i) ≡ true) × (b.page ≡ i) ⊎ ((b.page == i) ≡ false) × (b.page ≢ i)
        → get_or (set (pages_of n more) b.page (Some b.checksum)) i None ≡ get_or (pages_of n (b ∷ more)) i None
    at i low (inl (is, here)) =
        ap (λ k. get_or (set (pages_of n more) b.page (Some b.checksum)) k None) (sym here)
        ∙ get_or-set_same (pages_of n more) b.page (Some b.checksum) None (omega (arith, within, pages_length n more))
        ∙ sym (pages_at n (b ∷ more) i low ∙ rw is refl)
    at i low (inr (isnt, other)) =
        get_or-set_other (pages_of n more) b.page i (Some b.checksum) None (λ e. other (sym e)) ∙ pages_at n more i low
        ∙ sym (pages_at n (b ∷ more) i low ∙ rw isnt refl)

-- one block more, from the last one on
pub pages_more : (listed : List ListedBlock) (n i : ℕ) (b : ListedBlock) (blocks : List (Option (List ℕ))) → i < length listed
    → b ≡ get_or listed (length listed - 1 - i) b → b.page < n → blocks ≡ pages_of n (drop (length listed - i) listed)
    → set blocks b.page (Some b.checksum) ≡ pages_of n (drop (length listed - (i + 1)) listed)
pages_more listed n i b blocks low is within so_far =
    let k = length listed - 1 - i in
    let before : length listed - i ≡ k + 1 = omega (arith, low) in
    let here : k ≡ length listed - (i + 1) = omega (arith, low) in
    ap (λ bs. set bs b.page (Some b.checksum)) (so_far ∙ ap (λ j. pages_of n (drop j listed)) before)
    ∙ pages_set n b (drop (k + 1) listed) within
    ∙ sym (at_drop_more (pages_of n) listed k b (omega (arith, low))
    ∙ ap (λ (y : ListedBlock). pages_of n (y ∷ drop (k + 1) listed)) (sym is))
    ∙ ap (λ j. pages_of n (drop j listed)) here

pub pages_end : (listed : List ListedBlock) (n i : ℕ) → length listed ≤ i → pages_of n (drop (length listed - i) listed) ≡ pages_of n listed
pages_end listed n i past = ap (λ j. pages_of n (drop j listed)) (none i past)
  where
    none : (i : ℕ) → length listed ≤ i → length listed - i ≡ 0
    none i past = omega (arith, past)

-- ---- the blocks of an array

abbrev pub behind : List ListedBlock → Option (List ListedBlock) → Option (List ListedBlock)
behind front o = option_map (λ (more : List ListedBlock). front ++ more) o

behind_one : (front : List ListedBlock) (b : ListedBlock) (o : Option (List ListedBlock))
    → behind front (and_blocks (Some b) o) ≡ behind (front ++ b ∷ []) o
behind_one front b None = refl
behind_one front b (Some more) = ap Some (sym (append_assoc front (b ∷ []) more))

blocks_of_at : (items : List Value) (i : ℕ) (v : Value) → i < length items → v ≡ get_or items i v
    → blocks_of (items_view (drop i items)) ≡ and_blocks (block_in (view v)) (blocks_of (items_view (drop (i + 1) items)))
unfolding blocks_of
blocks_of_at items i v within is =
    at_drop_more (λ (xs : List Value). blocks_of (items_view xs)) items i v within
    ∙ ap (λ (y : Value). and_blocks (block_in (view y)) (blocks_of (items_view (drop (i + 1) items)))) (sym is)

-- one item more, which is read as this
item_read : (items : List Value) (i : ℕ) (v : Value) (front : List ListedBlock) (read : Option ListedBlock) → i < length items
    → v ≡ get_or items i v → read ≡ block_in (view v)
    → blocks_of (items_view items) ≡ behind front (blocks_of (items_view (drop i items)))
    → blocks_of (items_view items) ≡ behind front (and_blocks read (blocks_of (items_view (drop (i + 1) items))))
item_read items i v front read within is block so_far =
    let more = blocks_of (items_view (drop (i + 1) items)) in
    so_far ∙ ap (behind front) (blocks_of_at items i v within is ∙ ap (λ o. and_blocks o more) (sym block))

pub blocks_more : (items : List Value) (i : ℕ) (v : Value) (front : List ListedBlock) (b : ListedBlock) → i < length items
    → v ≡ get_or items i v → Some b ≡ block_in (view v)
    → blocks_of (items_view items) ≡ behind front (blocks_of (items_view (drop i items)))
    → blocks_of (items_view items) ≡ behind (front ++ b ∷ []) (blocks_of (items_view (drop (i + 1) items)))
blocks_more items i v front b within is read so_far = item_read items i v front (Some b) within is read so_far ∙ behind_one front b _

pub blocks_none : (items : List Value) (i : ℕ) (v : Value) (front : List ListedBlock) → i < length items
    → v ≡ get_or items i v → None ≡ block_in (view v)
    → blocks_of (items_view items) ≡ behind front (blocks_of (items_view (drop i items)))
    → (listed : List ListedBlock) → blocks_of (items_view items) ≡ Some listed → ⊥
blocks_none items i v front within is read so_far listed there =
    differ (sym (item_read items i v front None within is read so_far) ∙ there)
  where
    differ : {A : Type 0} {x : A} → None ≡ Some x → ⊥
    differ e = cc

nothing : (items : List Value) (i : ℕ) → length items ≤ i → blocks_of (items_view (drop i items)) ≡ Some []
unfolding blocks_of
nothing items i past = at_drop_all (λ (xs : List Value). blocks_of (items_view xs)) items i past

pub blocks_end : (items : List Value) (i : ℕ) (front : List ListedBlock) → length items ≤ i
    → blocks_of (items_view items) ≡ behind front (blocks_of (items_view (drop i items)))
    → blocks_of (items_view items) ≡ Some front
blocks_end items i front past so_far = so_far ∙ ap (behind front) (nothing items i past) ∙ ap Some (append-nil front)

-- ---- what is written of a list

pub good_at : (blocks : List (Option (List ℕ))) (i : ℕ) (x : Option (List ℕ)) → i < length blocks → x ≡ get_or blocks i x
    → IsEntry x → IsEntry (get_or blocks i None)
good_at blocks i x within is good = subst IsEntry (get_or_read blocks i x within is None) good

pub listed_short : (q : ℕ) (blocks : List (Option (List ℕ))) → length (listed_from q blocks) ≤ length blocks
unfolding listed_from
listed_short q [] = omega arith
listed_short q (None ∷ more) = omega (arith, listed_short (q + 1) more)
listed_short q (Some c ∷ more) = omega (arith, listed_short (q + 1) more)

pub values_count : (values : List Value) (blocks : List ListedBlock) → map view values ≡ map block_data blocks
    → length values ≡ length blocks
values_count values blocks e = sym (length-map values view) ∙ ap length e ∙ length-map blocks block_data

map_append : {X Y : Type 0} (f : X → Y) (xs ys : List X) → map f (xs ++ ys) ≡ map f xs ++ map f ys
map_append f [] ys = refl
map_append f (x ∷ xs) ys = ap (λ zs. f x ∷ zs) (map_append f xs ys)

pub values_more : (old new : List Data) (blocks : List (Option (List ℕ))) (i : ℕ) (x : Option (List ℕ)) → i < length blocks
    → x ≡ get_or blocks i x
    → new ≡ old ++ map block_data (one_listed i x)
    → new ++ map block_data (listed_from (i + 1) (drop (i + 1) blocks)) ≡ old ++ map block_data (listed_from i (drop i blocks))
unfolding listed_from
values_more old new blocks i x within is made =
    ap (λ (zs : List Data). zs ++ map block_data (listed_from (i + 1) (drop (i + 1) blocks))) made
    ∙ append_assoc old (map block_data (one_listed i x)) (map block_data (listed_from (i + 1) (drop (i + 1) blocks)))
    ∙ ap (λ (zs : List Data). old ++ zs) (sym (map_append block_data (one_listed i x) (listed_from (i + 1) (drop (i + 1) blocks))))
    ∙ ap (λ (y : Option (List ℕ)). old ++ map block_data (listed_from i (y ∷ drop (i + 1) blocks))) is
    ∙ ap (λ (zs : List ListedBlock). old ++ map block_data zs) (sym (at_drop_more (listed_from i) blocks i x within))

pub values_end : (old : List Data) (blocks : List (Option (List ℕ))) (i : ℕ) → length blocks ≤ i
    → old ++ map block_data (listed_from i (drop i blocks)) ≡ old
unfolding listed_from
values_end old blocks i past =
    ap (λ (zs : List ListedBlock). old ++ map block_data zs) (at_drop_all (listed_from i) blocks i past) ∙ append-nil old
