-- One replica more is saved, and what a folder is that was saved.
use Rattle.std.proofs.Common.{◌≡◌, ◌≢◌, ◌⊎◌, inl, inr, ℕ, ◌+◌, ◌<◌, ◌≤◌, Bool, true, false, List, length, Option, Some, None}
use Rattle.std.proofs.Common.{Result, Ok, Err, OnOk, refl, sym, subst, ◌∙◌, arith}
use Rattle.std.proofs.lemmas.Bool.{cases_lt}
use Rattle.volume_model.specs.Modes.{mode_of}
use Rattle.volume_model.specs.declared.mode.Mode.{Mode}
use Rattle.volume_model.specs.declared.mode.Mode.TheVariants.{Rw}
use Rattle.chain_meta.specs.Kinds.{largest_head}
use Rattle.shelf_traits.specs.Failing.{FileOn}
use Rattle.shelf_traits.specs.Files.{Files, Both}
use Rattle.folder_names.specs.Files.{Folder}
use Rattle.replica_node.specs.Node.{Node}
use Rattle.replica_node.specs.Volume.{volume_of_node}
use Rattle.replica_shelf.specs.declared.head.HeadMeta.{HeadMeta}
use Rattle.replica_shelf.specs.Folder.{Stamps, IsFolderOf, IsVolumeOf, volume_meta_of}
use Rattle.replica_shelf.specs.Saving.{IsSaved, ForeignStay, FellElsewhere}
use Rattle.replica_shelf.proofs.CallLemmas.{both_then, both_map}
use Rattle.open_calls.specs.Calls.{node_at}
use Rattle.volume_folders.specs.declared.heads.OpenedHead.{OpenedHead}
use Rattle.volume_folders.specs.Heads.{head_at, stamps_for}
use Rattle.volume_folders.specs.Sound.{IsSoundReplica}
use Rattle.volume_folders.specs.Saved.{is_failed, IsSavedAs, IsSavedAt, AreSavedAs, OnlyFoldersChange, FellSomewhere}
use Rattle.volume_folders.specs.Saved.{IsVolumeFolder, IsFailedFolder}
use Rattle.volume_folders.specs.Steps.{AreSavedSoFar}

-- the folders of other shelves stay
folder_stays : (shelf r : ℕ) (y z : Files) → ForeignStay shelf y z → r ≢ shelf → y r ≡ z r
folder_stays shelf r y z stays other = λ i f. sym (stays r f (inl other)) i

module _ (time : List ℕ) (heads : List (Option OpenedHead)) (modes : List Mode) (nodes : List Node) where
  -- a replica that is saved stays so while another is
  still_saved : (shelf r : ℕ) (y z : Files) → ForeignStay shelf y z → r ≢ shelf → IsSavedAt y time heads modes nodes r
      → IsSavedAt z time heads modes nodes r
  still_saved shelf r y z stays other saved =
      subst (λ folder. IsSavedAs folder (stamps_for time (head_at heads r) (node_at nodes r).number) (mode_of modes r) (node_at nodes r))
      (folder_stays shelf r y z stays other) saved

  only_more : (count : ℕ) (x y z : Files) → OnlyFoldersChange count x y → ForeignStay count y z → OnlyFoldersChange (count + 1) x z
  only_more count x y z only stays s f (inl past) =
      stays s f (inl (λ same. omega (arith, past, same))) ∙ only s f (inl (omega (arith, past)))
  only_more count x y z only stays s f (inr foreign) = stays s f (inr foreign) ∙ only s f (inr foreign)

  pub saved_more : (count : ℕ) (x y z : Files) → AreSavedSoFar time heads modes nodes count x y
      → IsSavedAt z time heads modes nodes count → ForeignStay count y z → AreSavedSoFar time heads modes nodes (count + 1) x z
  saved_more count x y z before here stays = record {
    saved = λ r less. by_order r less (cases_lt r count);
    only = only_more count x y z before.only stays;
  }
    where
      by_order : (r : ℕ) → r < count + 1 → (r < count) ⊎ (count ≤ r) → IsSavedAt z time heads modes nodes r
      by_order r less (inl below) = still_saved count r y z stays (λ same. omega (arith, below, same)) (before.saved r below)
      by_order r less (inr past) =
          let last : count ≡ r = omega (arith, less, past) in subst (IsSavedAt z time heads modes nodes) last here

  -- no more shelves change than there are replicas
  pub only_all : (count all : ℕ) (x y : Files) → count ≤ all → OnlyFoldersChange count x y → OnlyFoldersChange all x y
  only_all count all x y few only s f (inl past) = only s f (inl (omega (arith, few, past)))
  only_all count all x y few only s f (inr foreign) = only s f (inr foreign)

  pub only_next : (count all : ℕ) (a b c : Option Files) → count < all
      → Both a b (AreSavedSoFar time heads modes nodes count) → Both b c (ForeignStay count) → Both a c (OnlyFoldersChange all)
  only_next count all a b c few before stays =
      both_then a b c _ _ _ before stays
      (λ x y z saved other. only_all (count + 1) all x z (omega (arith, few)) (only_more count x y z saved.only other))

  pub none_saved : (a : Option Files) → Both a a (AreSavedSoFar time heads modes nodes 0)
  none_saved None = tt
  none_saved (Some files) = record { saved = λ r less. absurd (omega (arith, less)); only = λ s f not. refl }

  pub all_saved : (count : ℕ) (a b : Option Files) → count ≡ length nodes → Both a b (AreSavedSoFar time heads modes nodes count)
      → Both a b (λ old new. AreSavedAs new time heads modes nodes)
  all_saved count a b all saved =
      both_map a b _ _ saved (λ x y had r less. had.saved r (omega (arith, less, all)))

  -- a call failed while the one at that place was saved
  fell_here : (r : ℕ) (told : Option FileOn) (x y z : Files) → r < length nodes → AreSavedSoFar time heads modes nodes r x y
      → ForeignStay r y z
      → (FellElsewhere told → (node_at nodes r).number ≤ largest_head
      → IsVolumeOf (z r) (volume_meta_of true (is_failed (mode_of modes r)) (node_at nodes r)))
      → FellSomewhere time heads modes nodes told x z
  fell_here r told x y z within before stays dirty = (
    r,
    record {
      within = within;
      before = λ q less. still_saved r q y z stays (λ same. omega (arith, less, same)) (before.saved q less);
      behind = λ q f above. stays q f (inl (λ same. omega (arith, above, same))) ∙ before.only q f (inl (omega (arith, above)));
      dirty = dirty;
    },
  )

  pub fell_next : (r : ℕ) (told : Option FileOn) (a b c : Option Files) → r < length nodes
      → Both a b (AreSavedSoFar time heads modes nodes r) → Both b c (ForeignStay r)
      → (FellElsewhere told → (node_at nodes r).number ≤ largest_head → Both b c (λ old new.
      IsVolumeOf (new r) (volume_meta_of true (is_failed (mode_of modes r)) (node_at nodes r))))
      → Both a c (FellSomewhere time heads modes nodes told)
  fell_next r told None None None within before stays dirty = tt
  fell_next r told None None (Some z) within before stays dirty = absurd stays
  fell_next r told None (Some y) c within before stays dirty = absurd before
  fell_next r told (Some x) None c within before stays dirty = absurd before
  fell_next r told (Some x) (Some y) None within before stays dirty = absurd stays
  fell_next r told (Some x) (Some y) (Some z) within before stays dirty = fell_here r told x y z within before stays dirty

-- ---- one replica is saved

pub stamps_are : (now time : List ℕ) (head meta : HeadMeta) → now ≡ time → head ≡ meta
    → ◌≡◌ {A = Stamps} (record { now = now; head = head }) (record { now = time; head = meta })
stamps_are now time head meta p q = λ i. record { now = p i; head = q i }

-- a fact of a call, and one that holds of it on a premise
both_under : (Q : Type 0) (a b : Option Files) (P R : Files → Files → Type 0) → Both a b P → (Q → Both a b R)
    → Both a b (λ x y. P x y × (Q → R x y))
both_under Q None None P R p f = tt
both_under Q None (Some y) P R p f = absurd p
both_under Q (Some x) None P R p f = absurd p
both_under Q (Some x) (Some y) P R p f = (p, f)

pub saved_now : {T E : Type 0} (r : Result T E) (shelf : ℕ) (time : List ℕ) (heads : List (Option OpenedHead)) (modes : List Mode)
    (nodes : List Node) (stamps : Stamps) (failed : Bool) (node : Node) (a b : Option Files) → node_at nodes shelf ≡ node
    → stamps ≡ stamps_for time (head_at heads shelf) node.number → failed ≡ is_failed (mode_of modes shelf) → IsSoundReplica node
    → OnOk r (node.number ≤ largest_head → Both a b (λ old new. IsFolderOf (new shelf) stamps failed node))
    → OnOk r (Both a b (λ old new. IsSaved (new shelf) stamps failed node))
    → OnOk r (Both a b (λ old new. IsSavedAt new time heads modes nodes shelf))
saved_now (Err e) shelf time heads modes nodes stamps failed node a b at told mode sound ok files = tt
saved_now (Ok v) shelf time heads modes nodes stamps failed node a b at told mode sound ok files =
    let mode_is = mode_of modes shelf in
    let kept = stamps_for time (head_at heads shelf) node.number in
    let Saves : Stamps → Bool → Files → Files → Type 0 = λ s failed old new. IsSaved (new shelf) s failed node in
    let Folders : Stamps → Bool → Files → Files → Type 0 = λ s failed old new. IsFolderOf (new shelf) s failed node in
    subst (λ n. Both a b (λ old new. IsSavedAs (new shelf) (stamps_for time (head_at heads shelf) n.number) mode_is n)) (sym at)
    (both_map a b _ _ (both_under (node.number ≤ largest_head) a b (Saves kept (is_failed mode_is)) (Folders kept (is_failed mode_is))
    (subst (λ t. Both a b (Saves kept t)) mode (subst (λ s. Both a b (Saves s failed)) told files))
    (λ low. subst (λ t. Both a b (Folders kept t)) mode (subst (λ s. Both a b (Folders s failed)) told (ok low))))
    (λ x y (saved, is). record { sound = sound; saved = saved; is = is }))

-- ---- what a folder is that was saved

pub volume_folder : (folder : Folder) (stamps : Stamps) (node : Node) → IsSavedAs folder stamps Rw node → node.number ≤ largest_head
    → IsVolumeFolder folder stamps (volume_of_node node)
volume_folder folder stamps node saved low = record { node = node; sound = saved.sound; is = saved.is low; same = refl }

pub failed_of : (folder : Folder) (stamps : Stamps) (mode : Mode) (node : Node) (size : ℕ) → IsSavedAs folder stamps mode node
    → is_failed mode ≡ true → IsFailedFolder folder size
failed_of folder stamps mode node size saved failed = record {
  meta = volume_meta_of false (is_failed mode) node;
  text = saved.saved.volume;
  flagged = (refl, refl, failed);
}
