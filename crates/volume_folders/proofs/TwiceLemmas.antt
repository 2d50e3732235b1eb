-- Two openings of the same folders, and what is known beside what is told.
use Rattle.std.proofs.Common.{◌≡◌, ◌⊎◌, inl, inr, ℕ, ◌<◌, List, length, Option, Some, None, refl, sym, ap, subst, ◌∙◌, arith}
use Rattle.std.proofs.lemmas.Bool.{cases_order}
use Rattle.std.proofs.lemmas.List.{get_or-map, length-map, same_lists}
use Rattle.volume_model.specs.declared.mode.Mode.TheVariants.{Err}
use Rattle.shelf_traits.specs.Files.{Files}
use Rattle.folder_names.specs.Files.{Folder}
use Rattle.replica_node.specs.Node.{Node}
use Rattle.replica_node.specs.Volume.{volume_of_node}
use Rattle.replica_compare.specs.Comparing.{AreAlike}
use Rattle.open_calls.specs.Calls.{node_at}
use Rattle.volume_folders.specs.declared.reason.Reason.{Reason}
use Rattle.volume_folders.specs.declared.reason.Reason.TheVariants as reason
use Rattle.volume_folders.specs.Reasons.{reason_at, mode_for, modes_for}
use Rattle.volume_folders.specs.Opened.{IsCleanOf, IsToldRefused, IsToldBeside, StandsBeside, AreOpened, AreKnownOpened, AreOneVolume}
use Rattle.volume_folders.proofs.AlikeLemmas.{alike_then, not_alike, alike_volume, one_clean}
use Rattle.volume_folders.proofs.CleanLemmas.{told_refused_of}

-- ---- the first that is read

-- a folder that is refused is not read
not_read : (folder : Folder) (size : ℕ) (why : Option Reason) → IsToldRefused folder size why → why ≡ None → ⊥
not_read folder size why refused is = subst (IsToldRefused folder size) is refused

pub told_is_known : (files : Files) (size replicas told known : ℕ) (nodes : List Node) (reasons : List (Option Reason))
    → AreOpened files size nodes reasons told → AreKnownOpened size replicas nodes reasons known → told ≡ known
told_is_known files size replicas told known nodes reasons opened is = by_order (cases_order told known)
  where
    by_order : (told ≡ known) ⊎ ((told < known) ⊎ (known < told)) → told ≡ known
    by_order (inl same) = same
    by_order (inr (inl less)) = absurd (is.first told less opened.read)
    by_order (inr (inr more)) = absurd (not_read (files known) size (reason_at reasons known) (opened.before known more) is.read)

pub read_as_one : (size replicas source r : ℕ) (nodes : List Node) (reasons : List (Option Reason))
    → AreKnownOpened size replicas nodes reasons source → r < replicas → reason_at reasons r ≡ None
    → volume_of_node (node_at nodes r) ≡ volume_of_node (node_at nodes source)
read_as_one size replicas source r nodes reasons known less is =
    sym (alike_volume (node_at nodes source) (node_at nodes r) (known.sound source known.there) (known.sound r less)
    known.whole.order (known.each r is less).order (known.alike r is less))

-- ---- one disk

not_before : (files : Files) (size : ℕ) (nodes others : List Node) (reasons told : List (Option Reason)) (source other : ℕ)
    → AreOpened files size nodes reasons source → AreOpened files size others told other → source < other → ⊥
not_before files size nodes others reasons told source other x y less =
    told_refused_of (files source) size (reason_at told source) (node_at nodes source) (y.before source less) x.clean

one_source : (files : Files) (size : ℕ) (nodes others : List Node) (reasons told : List (Option Reason)) (source other : ℕ)
    → AreOpened files size nodes reasons source → AreOpened files size others told other → other ≡ source
one_source files size nodes others reasons told source other x y = by_order (cases_order other source)
  where
    by_order : (other ≡ source) ⊎ ((other < source) ⊎ (source < other)) → other ≡ source
    by_order (inl same) = same
    by_order (inr (inl less)) = absurd (not_before files size others nodes told reasons other source y x less)
    by_order (inr (inr more)) = absurd (not_before files size nodes others reasons told source other x y more)

-- ---- one mode

refused_mode : (folder : Folder) (size : ℕ) (why : Option Reason) → IsToldRefused folder size why → mode_for why ≡ Err
refused_mode folder size None refused = absurd refused
refused_mode folder size (Some why) refused = refl

-- a replica that stands beside the disk as it is, and one as that beside one as the disk, are told alike
beside_mode : (disk node disks nodes : Node) (why also : Option Reason) → AreAlike disks disk → AreAlike disk disks
    → AreAlike node nodes → AreAlike nodes node → StandsBeside disk node why → StandsBeside disks nodes also
    → mode_for also ≡ mode_for why
beside_mode disk node disks nodes None None back forth same too x y = refl
beside_mode disk node disks nodes None (Some (reason.Differs how)) back forth same too x y =
    absurd (not_alike disks nodes how y (alike_then disks disk nodes back (alike_then disk node nodes x same)))
beside_mode disk node disks nodes None (Some (reason.Unclean flag)) back forth same too x y = absurd y
beside_mode disk node disks nodes None (Some (reason.Damaged damage)) back forth same too x y = absurd y
beside_mode disk node disks nodes (Some (reason.Differs how)) None back forth same too x y =
    absurd (not_alike disk node how x (alike_then disk disks node forth (alike_then disks nodes node y too)))
beside_mode disk node disks nodes (Some (reason.Unclean flag)) None back forth same too x y = absurd x
beside_mode disk node disks nodes (Some (reason.Damaged damage)) None back forth same too x y = absurd x
beside_mode disk node disks nodes (Some why) (Some also) back forth same too x y = refl

abbrev IsHeld : Files → ℕ → List Node → List (Option Reason) → ℕ → ℕ → Type 0
IsHeld files size nodes reasons source r = IsToldRefused (files r) size (reason_at reasons r)
    ⊎ IsToldBeside (files r) size (node_at nodes source) (node_at nodes r) (reason_at reasons r)

module _ (files : Files) (size : ℕ) (nodes others : List Node) (reasons told : List (Option Reason)) (source : ℕ)
    (x : AreOpened files size nodes reasons source) (y : AreOpened files size others told source) where
  held_mode : (r : ℕ) → IsHeld files size nodes reasons source r → IsHeld files size others told source r
      → mode_for (reason_at told r) ≡ mode_for (reason_at reasons r)
  held_mode r (inl refused) (inl also) =
      refused_mode (files r) size (reason_at told r) also ∙ sym (refused_mode (files r) size (reason_at reasons r) refused)
  held_mode r (inl refused) (inr also) =
      absurd (told_refused_of (files r) size (reason_at reasons r) (node_at others r) refused also.clean)
  held_mode r (inr beside) (inl also) =
      absurd (told_refused_of (files r) size (reason_at told r) (node_at nodes r) also beside.clean)
  held_mode r (inr beside) (inr also) =
      let disk = node_at nodes source in
      let disks = node_at others source in
      let node = node_at nodes r in
      let too = node_at others r in
      beside_mode disk node disks too (reason_at reasons r) (reason_at told r)
      (one_clean (files source) size disks disk y.clean x.clean) (one_clean (files source) size disk disks x.clean y.clean)
      (one_clean (files r) size node too beside.clean also.clean) (one_clean (files r) size too node also.clean beside.clean)
      beside.beside also.beside

  one_mode : (r : ℕ) → r < length reasons → r < length told → mode_for (reason_at told r) ≡ mode_for (reason_at reasons r)
  one_mode r within also = by_order (cases_order r source)
    where
      by_order : (r ≡ source) ⊎ ((r < source) ⊎ (source < r)) → mode_for (reason_at told r) ≡ mode_for (reason_at reasons r)
      by_order (inl same) = ap (λ n. mode_for (reason_at told n)) same ∙ ap mode_for y.read ∙ sym (ap mode_for x.read)
          ∙ sym (ap (λ n. mode_for (reason_at reasons n)) same)
      by_order (inr (inl less)) = held_mode r (inl (x.before r less)) (inl (y.before r less))
      by_order (inr (inr more)) = held_mode r (x.behind r more within) (y.behind r more also)

  one_modes : length told ≡ length reasons → modes_for told ≡ modes_for reasons
  one_modes many =
      same_lists (modes_for told) (modes_for reasons) (length-map told mode_for ∙ many ∙ sym (length-map reasons mode_for))
      (λ k d within. let also : k < length told = omega (arith, within, length-map told mode_for) in
      get_or-map mode_for told k None d also ∙ one_mode k (omega (arith, also, many)) also
      ∙ sym (get_or-map mode_for reasons k None d (omega (arith, also, many))))

-- ---- the whole

pub are_one : (files : Files) (size replicas source other : ℕ) (nodes others : List Node) (reasons told : List (Option Reason))
    → AreOpened files size nodes reasons source → AreKnownOpened size replicas nodes reasons source
    → AreOpened files size others told other → AreKnownOpened size replicas others told other
    → AreOneVolume nodes others reasons told source other
are_one files size replicas source other nodes others reasons told x known y also =
    let same = one_source files size nodes others reasons told source other x y in
    let y_there = subst (AreOpened files size others told) same y in
    let disk = node_at nodes source in
    let disks = node_at others other in
    record {
      source_is = same;
      volume = alike_volume disks disk (also.sound other also.there) (known.sound source known.there) also.whole.order
          known.whole.order (one_clean (files source) size disks disk
          (subst (λ n. IsCleanOf (files n) size disks) same y.clean) x.clean);
      modes = one_modes files size nodes others reasons told source x y_there (also.as_many ∙ sym known.as_many);
    }
