-- One folder more is opened.
use Rattle.std.proofs.Common.{◌≡◌, ◌≢◌, ◌⊎◌, inl, inr, ℕ, ◌+◌, ◌<◌, ◌≤◌, List, [], ◌∷◌, ◌++◌, length, map, get_or, Option, Some, None}
use Rattle.std.proofs.Common.{refl, sym, ap, subst, ◌∙◌, length-append, arith}
use Rattle.std.specs.Option.{option_map}
use Rattle.std.proofs.Math.ListN.{get_or-append}
use Rattle.std.proofs.Math.Seq.{get_or-append_seam}
use Rattle.std.proofs.lemmas.Bool.{cases_lt}
use Rattle.std.proofs.lemmas.List.{length-map}
use Rattle.shelf_traits.specs.Files.{Files}
use Rattle.folder_checks.specs.Told.{Told}
use Rattle.folder_checks.proofs.ToldLemmas.{told_map, told_two, told_back}
use Rattle.replica_node.specs.Node.{Node, blank}
use Rattle.replica_compare.specs.Comparing.{AreAlike}
use Rattle.open_calls.specs.Calls.{node_at}
use Rattle.volume_folders.specs.declared.heads.OpenedHead.{OpenedHead}
use Rattle.volume_folders.specs.declared.reason.Reason.{Reason}
use Rattle.volume_folders.specs.Sound.{IsSoundReplica}
use Rattle.volume_folders.specs.Heads.{IsHeadTold, AreHeadsTold}
use Rattle.volume_folders.specs.Reasons.{reason_at}
use Rattle.volume_folders.specs.Opened.{IsCleanOf, IsToldRefused, IsToldBeside, NoneIsClean, AreAllOpened, AreKnownOpened}
use Rattle.volume_folders.specs.Steps.{IsFound, IsKnownFound, IsKeptFor, source_after, AreOpenedSoFar, IsSourceSoFar, AreKnownSoFar}
use Rattle.volume_folders.proofs.AlikeLemmas.{alike_itself}

-- ---- two lists with one element more

last_at : {A : Type 0} (xs : List A) (x d : A) (n : ℕ) → length xs ≡ n → get_or (xs ++ x ∷ []) n d ≡ x
last_at xs x d n many = subst (λ m. get_or (xs ++ x ∷ []) m d ≡ x) many (get_or-append_seam xs x [] d)

pub pairs_more : {A B : Type 0} (P : ℕ → A → B → Type 0) (xs : List A) (ys : List B) (x a : A) (y b : B) → length xs ≡ length ys
    → ((r : ℕ) → r < length ys → P r (get_or xs r a) (get_or ys r b)) → P (length ys) x y
    → (r : ℕ) → r < length (ys ++ y ∷ []) → P r (get_or (xs ++ x ∷ []) r a) (get_or (ys ++ y ∷ []) r b)
pairs_more P xs ys x a y b many all last r within = by_order (cases_lt r (length ys))
  where
    by_order : (r < length ys) ⊎ (length ys ≤ r) → P r (get_or (xs ++ x ∷ []) r a) (get_or (ys ++ y ∷ []) r b)
    by_order (inl less) =
        let inside : r < length xs = omega (arith, less, many) in
        subst (λ u. P r u (get_or (ys ++ y ∷ []) r b)) (sym (get_or-append xs (x ∷ []) a r inside))
        (subst (P r (get_or xs r a)) (sym (get_or-append ys (y ∷ []) b r less)) (all r less))
    by_order (inr past) =
        let here : r ≡ length ys = omega (arith, past, within, length-append ys (y ∷ [])) in
        subst (λ n. P n (get_or (xs ++ x ∷ []) n a) (get_or (ys ++ y ∷ []) n b)) (sym here)
        (subst (λ u. P (length ys) u (get_or (ys ++ y ∷ []) (length ys) b)) (sym (last_at xs x a (length ys) many))
        (subst (P (length ys) x) (sym (last_at ys y b (length ys) refl)) last))

some_is_not : {A : Type 0} (x : A) → Some x ≡ None → ⊥
some_is_not x e = cc

-- ---- one folder more

module _ (nodes : List Node) (reasons : List (Option Reason)) (node : Node) (why : Option Reason)
    (many : length nodes ≡ length reasons) where
  abbrev new_nodes : List Node
  new_nodes = nodes ++ node ∷ []

  abbrev new_reasons : List (Option Reason)
  new_reasons = reasons ++ why ∷ []

  old_reason : (r : ℕ) → r < length reasons → reason_at new_reasons r ≡ reason_at reasons r
  old_reason r less = get_or-append reasons (why ∷ []) None r less

  new_reason : reason_at new_reasons (length reasons) ≡ why
  new_reason = last_at reasons why None (length reasons) refl

  old_node : (r : ℕ) → r < length reasons → node_at new_nodes r ≡ node_at nodes r
  old_node r less = get_or-append nodes (node ∷ []) (blank 0) r (omega (arith, less, many))

  new_node : node_at new_nodes (length reasons) ≡ node
  new_node = last_at nodes node (blank 0) (length reasons) many

  new_length : length new_reasons ≡ length reasons + 1
  new_length = length-append reasons (why ∷ [])

  more : (P : ℕ → Node → Option Reason → Type 0)
      → ((r : ℕ) → r < length reasons → P r (node_at nodes r) (reason_at reasons r)) → P (length reasons) node why
      → (r : ℕ) → r < length new_reasons → P r (node_at new_nodes r) (reason_at new_reasons r)
  more P all last = pairs_more P nodes reasons node (blank 0) why None many all last

-- what is told of a later folder beside the disk
abbrev IsHeld : Files → ℕ → Node → ℕ → Node → Option Reason → Type 0
IsHeld files size disk r n told = IsToldRefused (files r) size told ⊎ IsToldBeside (files r) size disk n told

abbrev IsBehind : Files → ℕ → ℕ → Node → ℕ → Node → Option Reason → Type 0
IsBehind files size source disk r n told = source < r → IsHeld files size disk r n told

-- what is told of the folders so far, with one more
pub opened_next : (files : Files) (size : ℕ) (nodes : List Node) (reasons : List (Option Reason)) (node : Node) (source : Option ℕ)
    (why : Option Reason) → length nodes ≡ length reasons → IsSourceSoFar nodes reasons source
    → AreOpenedSoFar files size nodes reasons source
    → IsFound (files (length reasons)) size (option_map (node_at nodes) source) node why
    → AreOpenedSoFar files size (nodes ++ node ∷ []) (reasons ++ why ∷ []) (source_after source (length reasons) why)
opened_next files size nodes reasons node None None many known all (inl refused) = absurd refused
opened_next files size nodes reasons node None None many known all (inr told) = record {
  read = new_reason nodes reasons node None many;
  clean = subst (IsCleanOf (files (length reasons)) size) (sym (new_node nodes reasons node None many)) told.clean;
  before = λ r less. subst (IsToldRefused (files r) size) (sym (old_reason nodes reasons node None many r less)) (all r less);
  behind = λ r above within. absurd (omega (arith, above, within, new_length nodes reasons node None many));
}
opened_next files size nodes reasons node None (Some w) many known all (inl refused) =
    more nodes reasons node (Some w) many (λ r n told. IsToldRefused (files r) size told) all refused
opened_next files size nodes reasons node None (Some w) many known all (inr told) = absurd (some_is_not w told.against)
opened_next files size nodes reasons node (Some s) why many known opened found =
    let disk : node_at (nodes ++ node ∷ []) s ≡ node_at nodes s = old_node nodes reasons node why many s known.there in
    record {
      read = old_reason nodes reasons node why many s known.there ∙ opened.read;
      clean = subst (IsCleanOf (files s) size) (sym disk) opened.clean;
      before = λ r less. subst (IsToldRefused (files r) size)
          (sym (old_reason nodes reasons node why many r (omega (arith, less, known.there)))) (opened.before r less);
      behind = λ r above within. more nodes reasons node why many (IsBehind files size s (node_at (nodes ++ node ∷ []) s))
          (λ q less up. subst (λ d. IsHeld files size d q (node_at nodes q) (reason_at reasons q)) (sym disk) (opened.behind q up less))
          (λ up. subst (λ d. IsHeld files size d (length reasons) node why) (sym disk) (held found)) r within above;
    }
  where
    held : IsFound (files (length reasons)) size (Some (node_at nodes s)) node why
        → IsHeld files size (node_at nodes s) (length reasons) node why
    held (inl refused) = inl refused
    held (inr told) = inr (record { clean = told.clean; beside = told.against })

-- what is known of them
source_next : (size : ℕ) (nodes : List Node) (reasons : List (Option Reason)) (node : Node) (source : Option ℕ) (why : Option Reason)
    → length nodes ≡ length reasons → IsSourceSoFar nodes reasons source
    → IsKnownFound size (option_map (node_at nodes) source) node why
    → IsSourceSoFar (nodes ++ node ∷ []) (reasons ++ why ∷ []) (source_after source (length reasons) why)
source_next size nodes reasons node None None many none found =
    let here = new_node nodes reasons node None many in
    record {
      there = omega (arith, new_length nodes reasons node None many);
      read = new_reason nodes reasons node None many;
      first = λ r less is. none r less (sym (old_reason nodes reasons node None many r less) ∙ is);
      alike = λ r within is. subst (λ d. AreAlike d (node_at (nodes ++ node ∷ []) r)) (sym here)
          (more nodes reasons node None many (λ q n told. told ≡ None → AreAlike node n) (λ q less read. absurd (none q less read))
          (λ read. alike_itself node) r within is);
    }
source_next size nodes reasons node None (Some w) many none found =
    more nodes reasons node (Some w) many (λ q n told. told ≢ None) none (some_is_not w)
source_next size nodes reasons node (Some s) why many known found =
    let disk : node_at (nodes ++ node ∷ []) s ≡ node_at nodes s = old_node nodes reasons node why many s known.there in
    record {
      there = omega (arith, known.there, new_length nodes reasons node why many);
      read = old_reason nodes reasons node why many s known.there ∙ known.read;
      first = λ r less is. known.first r less
          (sym (old_reason nodes reasons node why many r (omega (arith, less, known.there))) ∙ is);
      alike = λ r within is. subst (λ d. AreAlike d (node_at (nodes ++ node ∷ []) r)) (sym disk)
          (more nodes reasons node why many (λ q n told. told ≡ None → AreAlike (node_at nodes s) n) known.alike
          (found.alike (node_at nodes s) refl) r within is);
    }

pub known_next : (size count : ℕ) (nodes : List Node) (reasons : List (Option Reason)) (node : Node) (source : Option ℕ)
    (why : Option Reason) → AreKnownSoFar size count nodes reasons source
    → IsKnownFound size (option_map (node_at nodes) source) node why
    → AreKnownSoFar size (count + 1) (nodes ++ node ∷ []) (reasons ++ why ∷ []) (source_after source count why)
known_next size count nodes reasons node source why known found =
    let many : length nodes ≡ length reasons = known.many ∙ sym known.as_many in
    let long : length (reasons ++ why ∷ []) ≡ count + 1 = new_length nodes reasons node why many ∙ ap (λ n. n + 1) known.as_many in
    record {
      many = length-append nodes (node ∷ []) ∙ ap (λ n. n + 1) known.many;
      as_many = long;
      sound = λ r less. more nodes reasons node why many (λ q n told. IsSoundReplica n)
          (λ q within. known.sound q (omega (arith, within, known.as_many))) found.sound r (omega (arith, less, long));
      kept = λ r less. more nodes reasons node why many (λ q n told. IsKeptFor size n told)
          (λ q within. known.kept q (omega (arith, within, known.as_many))) found.kept r (omega (arith, less, long));
      source_is = subst (λ n. IsSourceSoFar (nodes ++ node ∷ []) (reasons ++ why ∷ []) (source_after source n why)) known.as_many
          (source_next size nodes reasons node source why many known.source_is found);
    }

pub heads_next : (files : Files) (reasons : List (Option Reason)) (heads : List (Option OpenedHead)) (why : Option Reason)
    (head : Option OpenedHead) → length heads ≡ length reasons → AreHeadsTold files reasons heads
    → IsHeadTold (files (length reasons)) why head → AreHeadsTold files (reasons ++ why ∷ []) (heads ++ head ∷ [])
heads_next files reasons heads why head many all last =
    pairs_more (λ (r : ℕ) (h : Option OpenedHead) (w : Option Reason). IsHeadTold (files r) w h) heads reasons head None why None many all
    last

-- ---- the same where shelves tell what they hold

pub told_next : (a b : Option Files) (size count : ℕ) (nodes : List Node) (reasons : List (Option Reason)) (node : Node)
    (source : Option ℕ) (why : Option Reason) → b ≡ a → AreKnownSoFar size count nodes reasons source
    → Told a (λ files. AreOpenedSoFar files size nodes reasons source)
    → Told b (λ files. IsFound (files count) size (option_map (node_at nodes) source) node why)
    → Told a (λ files. AreOpenedSoFar files size (nodes ++ node ∷ []) (reasons ++ why ∷ []) (source_after source count why))
told_next a b size count nodes reasons node source why same known before found =
    told_two a (λ files. AreOpenedSoFar files size nodes reasons source)
    (λ files. IsFound (files count) size (option_map (node_at nodes) source) node why) _ before
    (told_back a b (λ files. IsFound (files count) size (option_map (node_at nodes) source) node why) same found)
    (λ files opened one. subst (λ n. AreOpenedSoFar files size (nodes ++ node ∷ []) (reasons ++ why ∷ []) (source_after source n why))
    known.as_many (opened_next files size nodes reasons node source why (known.many ∙ sym known.as_many) known.source_is opened
    (subst (λ n. IsFound (files n) size (option_map (node_at nodes) source) node why) (sym known.as_many) one)))

pub heads_told : (a b : Option Files) (count : ℕ) (reasons : List (Option Reason)) (heads : List (Option OpenedHead))
    (why : Option Reason) (head : Option OpenedHead) → b ≡ a → length reasons ≡ count → length heads ≡ count
    → Told a (λ files. AreHeadsTold files reasons heads) → Told b (λ files. IsHeadTold (files count) why head)
    → Told a (λ files. AreHeadsTold files (reasons ++ why ∷ []) (heads ++ head ∷ []))
heads_told a b count reasons heads why head same as_many many before found =
    told_two a (λ files. AreHeadsTold files reasons heads) (λ files. IsHeadTold (files count) why head) _ before
    (told_back a b (λ files. IsHeadTold (files count) why head) same found)
    (λ files all one. heads_next files reasons heads why head (many ∙ sym as_many) all
    (subst (λ n. IsHeadTold (files n) why head) (sym as_many) one))

-- ---- the same of what a turn makes

-- the lists, the source and the disk beside which one more was opened
pub record IsTurn (count : ℕ) (nodes new_nodes : List Node) (reasons new_reasons : List (Option Reason)) (source new_source : Option ℕ)
    (disk : Option Node) (node : Node) (why : Option Reason) : Type 0 where
  pub nodes_are : new_nodes ≡ nodes ++ node ∷ []
  pub reasons_are : new_reasons ≡ reasons ++ why ∷ []
  pub source_is : new_source ≡ source_after source count why
  pub disk_is : disk ≡ option_map (node_at nodes) source

pub told_turn : (a b : Option Files) (size count : ℕ) (nodes new_nodes : List Node) (reasons new_reasons : List (Option Reason))
    (source new_source : Option ℕ) (disk : Option Node) (node : Node) (why : Option Reason)
    → IsTurn count nodes new_nodes reasons new_reasons source new_source disk node why → b ≡ a
    → AreKnownSoFar size count nodes reasons source → Told a (λ files. AreOpenedSoFar files size nodes reasons source)
    → Told b (λ files. IsFound (files count) size disk node why)
    → Told a (λ files. AreOpenedSoFar files size new_nodes new_reasons new_source)
told_turn a b size count nodes new_nodes reasons new_reasons source new_source disk node why turn same known before found =
    subst (λ ns. Told a (λ files. AreOpenedSoFar files size ns new_reasons new_source)) (sym turn.nodes_are)
    (subst (λ rs. Told a (λ files. AreOpenedSoFar files size (nodes ++ node ∷ []) rs new_source)) (sym turn.reasons_are)
    (subst (λ o. Told a (λ files. AreOpenedSoFar files size (nodes ++ node ∷ []) (reasons ++ why ∷ []) o)) (sym turn.source_is)
    (told_next a b size count nodes reasons node source why same known before
    (subst (λ d. Told b (λ files. IsFound (files count) size d node why)) turn.disk_is found))))

pub known_turn : (size count : ℕ) (nodes new_nodes : List Node) (reasons new_reasons : List (Option Reason))
    (source new_source : Option ℕ) (disk : Option Node) (node : Node) (why : Option Reason)
    → IsTurn count nodes new_nodes reasons new_reasons source new_source disk node why
    → AreKnownSoFar size count nodes reasons source → IsKnownFound size disk node why
    → AreKnownSoFar size (count + 1) new_nodes new_reasons new_source
known_turn size count nodes new_nodes reasons new_reasons source new_source disk node why turn known found =
    subst (λ ns. AreKnownSoFar size (count + 1) ns new_reasons new_source) (sym turn.nodes_are)
    (subst (λ rs. AreKnownSoFar size (count + 1) (nodes ++ node ∷ []) rs new_source) (sym turn.reasons_are)
    (subst (AreKnownSoFar size (count + 1) (nodes ++ node ∷ []) (reasons ++ why ∷ [])) (sym turn.source_is)
    (known_next size count nodes reasons node source why known
    (subst (λ d. IsKnownFound size d node why) turn.disk_is found))))

pub heads_turn : (a b : Option Files) (count : ℕ) (reasons new_reasons : List (Option Reason))
    (heads new_heads : List (Option OpenedHead)) (why : Option Reason) (head : Option OpenedHead)
    → new_reasons ≡ reasons ++ why ∷ [] → new_heads ≡ heads ++ head ∷ [] → b ≡ a → length reasons ≡ count → length heads ≡ count
    → Told a (λ files. AreHeadsTold files reasons heads) → Told b (λ files. IsHeadTold (files count) why head)
    → Told a (λ files. AreHeadsTold files new_reasons new_heads)
heads_turn a b count reasons new_reasons heads new_heads why head reasons_are heads_are same as_many many before found =
    subst (λ rs. Told a (λ files. AreHeadsTold files rs new_heads)) (sym reasons_are)
    (subst (λ hs. Told a (λ files. AreHeadsTold files (reasons ++ why ∷ []) hs)) (sym heads_are)
    (heads_told a b count reasons heads why head same as_many many before found))

-- ---- no folder yet

none_yet : {P : Type 0} (r : ℕ) → r < 0 → P
none_yet r less = absurd (omega (arith, less))

pub told_none : (a : Option Files) (size : ℕ) → Told a (λ files. AreOpenedSoFar files size [] [] None)
told_none None size = tt
told_none (Some files) size = λ r less. none_yet r less

pub heads_none : (a : Option Files) → Told a (λ files. AreHeadsTold files [] [])
heads_none None = tt
heads_none (Some files) = λ r less. none_yet r less

pub known_none : (size : ℕ) → AreKnownSoFar size 0 [] [] None
known_none size = record {
  many = refl;
  as_many = refl;
  sound = λ r less. none_yet r less;
  kept = λ r less. none_yet r less;
  source_is = λ r less. none_yet r less;
}

-- ---- all folders

pub told_volume : (a : Option Files) (size replicas source : ℕ) (nodes : List Node) (reasons : List (Option Reason))
    → AreKnownSoFar size replicas nodes reasons (Some source) → Told a (λ files. AreOpenedSoFar files size nodes reasons (Some source))
    → Told a (λ files. AreAllOpened files size replicas nodes reasons)
told_volume a size replicas source nodes reasons known told =
    told_map a _ _ told (λ files opened. record {
      many = known.many;
      as_many = known.as_many;
      source = source;
      there = omega (arith, known.source_is.there, known.as_many);
      opened = opened;
    })

pub known_volume : (size replicas source : ℕ) (nodes : List Node) (reasons : List (Option Reason))
    → AreKnownSoFar size replicas nodes reasons (Some source) → AreKnownOpened size replicas nodes reasons source
known_volume size replicas source nodes reasons known =
    let is = known.source_is in
    let there : source < replicas = omega (arith, is.there, known.as_many) in
    record {
      many = known.many;
      as_many = known.as_many;
      there = there;
      read = is.read;
      first = is.first;
      sound = known.sound;
      whole = subst (IsKeptFor size (node_at nodes source)) is.read (known.kept source there);
      each = λ r read less. subst (IsKeptFor size (node_at nodes r)) read (known.kept r less);
      alike = λ r read less. is.alike r (omega (arith, less, known.as_many)) read;
      unread = λ r why told less. subst (IsKeptFor size (node_at nodes r)) told (known.kept r less);
    }

pub none_known : (size replicas : ℕ) (nodes : List Node) (reasons : List (Option Reason)) (all : List Reason)
    → AreKnownSoFar size replicas nodes reasons None → map Some all ≡ reasons → length all ≡ replicas
none_known size replicas nodes reasons all known is =
    sym (length-map all (λ (why : Reason). Some why)) ∙ ap (λ l. length l) is ∙ known.as_many

pub none_told : (a : Option Files) (size replicas : ℕ) (nodes : List Node) (reasons : List (Option Reason)) (all : List Reason)
    → AreKnownSoFar size replicas nodes reasons None → map Some all ≡ reasons
    → Told a (λ files. AreOpenedSoFar files size nodes reasons None)
    → Told a (λ files. (length all ≡ replicas) × NoneIsClean files size all)
none_told a size replicas nodes reasons all known is told =
    let many = none_known size replicas nodes reasons all known is in
    told_map a _ _ told (λ files none. (
      many,
      λ r less. subst (λ l. IsToldRefused (files r) size (reason_at l r)) (sym is)
          (none r (omega (arith, less, many, known.as_many))),
    ))
