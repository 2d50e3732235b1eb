-- A backup, try after try, until it is answered.
use Rattle.std.proofs.Common.{◌≡◌, ◌≢◌, ℕ, Bool, true, false, arith, List, [], ◌∷◌, ◌++◌}
use Rattle.std.proofs.Common.{Result, Ok, Err, IfOk, Option, Some, None, IfSome, is_ok, is_some}
use Rattle.std.proofs.Common.{subst, sym, refl, ap, ◌∙◌}
use Rattle.std.specs.Prelude.{IsSome, Contains}
use Rattle.std.proofs.lemmas.Bool.{false≢true}
use Rattle.target_traits.specs.Objects.{Objects}
use Rattle.backup_units.specs.Backups.{IsBackup}
use Rattle.backup_units.specs.Blocks.{HoldsBlock, KeepsBlocks}
use Rattle.backup_units.specs.Faults.{HasFault}
use Rattle.backup_units.specs.Names.{cfg_name}
use Rattle.backup_config.specs.Lists.{Listing}
use Rattle.backup_make.specs.declared.error.MakeError.{MakeError}
use Rattle.backup_make.specs.declared.error.MakeError.TheVariants as make_error
use Rattle.backup_make.specs.Giving.{Copies, HasCopy}
use Rattle.backup_make.specs.Made.{IsMade}
use Rattle.backup_make.specs.Making.{AddsBlocks, IsBase, is_make_fault}
use Rattle.backup_make.proofs.MadeLemmas.{cfg_stays}
use Rattle.backup_make.proofs.KeptLemmas.{backup_stays}
use Rattle.volume_model.specs.declared.call.Refusal.TheVariants.{NoSuchSnapshot, NoReplica, BackupExists, BlockDiffers, TargetFault}
use Rattle.volume_model.specs.declared.call.Refusal.TheVariants as refusal
use Rattle.volume_model.specs.declared.call.Reply.{Reply}
use Rattle.volume_model.specs.declared.call.Reply.TheVariants as reply
use Rattle.volume_model.specs.Copies.{IsCopyOf}
use Rattle.volume_model.specs.declared.mode.Mode.{Mode}
use Rattle.volume_model.specs.declared.mode.Mode.TheVariants.{Rw}
use Rattle.volume_model.specs.Modes.{mode_of, HasNoSource, HasSource, IsSource}
use Rattle.volume_model.specs.PlainState.{copy_of}
use Rattle.std.proofs.Common.{zero, suc}
use Rattle.std.specs.Prelude.{MatchOption}
use Rattle.std.proofs.lemmas.List.Elements.{Contains-append_left, Contains-append_right, Contains-push}
use Rattle.stream_steps.specs.Steps.{AreMarks}
use Rattle.stream_steps.specs.Maint.{HasTurn}
use Rattle.volume_model.specs.declared.command.Command.{Command}
use Rattle.stream_steps.proofs.MineLemmas.{longer_none}
use Rattle.control_worker.specs.Whole.{GoesOn}
use Rattle.control_worker.proofs.Goes.{goes_first, goes_on, goes_running}
use Rattle.stream_steps.specs.Mine.{Log, Mine, OwnCall, Placed, answer_placed, longer}
use Rattle.stream_steps.specs.Backup.{EndsBackup, KeepsCopies, KeepsTold, RefusesEndBackup}
use Rattle.control_worker.specs.declared.backup.Tried.{Tried}
use Rattle.control_worker.specs.declared.backup.Tried.TheVariants as tried
use Rattle.control_worker.specs.Backups.{BacksUp, IsLast, IsListOf, IsTriedOf, LiveFor, MakesOf, StoreTells, Tries}
use Rattle.control_worker.specs.Backups.{count_for, last_of, reply_of, tells_fault}
use Rattle.control_worker.specs.Giver.{copies_of}
use Rattle.control_worker.proofs.GiverLemmas.{copies_known, still_live}

pub live_of : (o : Option (List ℕ)) (bytes : ℕ) → HasCopy o bytes → IsSome o
live_of None bytes has = absurd has
live_of (Some disk) bytes has = refl

-- ---- what a try comes to

-- nothing was changed
pub tells_same : (volume backup : List ℕ) (copy : Option (List ℕ)) (old new : Objects) → new ≡ old
    → StoreTells volume backup copy (reply.Refused NoSuchSnapshot) old new
tells_same volume backup copy old new same = record {
  made = λ e. absurd cc;
  exists = λ e. absurd cc;
  found = λ e. tt;
  differs = λ e. absurd cc;
  there = λ e. ap (λ (o : Objects). o (cfg_name volume backup)) same;
  keeps = record {
    blocks = λ c bytes h. subst (λ (o : Objects). HoldsBlock o volume c bytes) (sym same) h;
    cfgs = λ other not. ap (λ (o : Objects). o (cfg_name volume other)) same;
  };
  others = λ name a b d. ap (λ (o : Objects). o name) same;
  unmade = λ a b name not. ap (λ (o : Objects). o name) same;
}

none_some : (o : Option (List ℕ)) → o ≡ None → IsSome o → ⊥
none_some o e some = false≢true (subst IsSome e some)

pub tells_of : (volume backup : List ℕ) (copy : Option (List ℕ)) (res : Result Listing MakeError) (t : Tried) (old new : Objects)
    → IsTriedOf res t → MakesOf volume backup copy res old new → StoreTells volume backup copy (reply_of t) old new
tells_of volume backup copy (Ok list) t old new is m =
    subst (λ x. StoreTells volume backup copy (reply_of x) old new) (sym is) (record {
      made = λ e. m.has;
      exists = λ e. absurd cc;
      found = λ some. absurd (none_some _ m.answer some);
      differs = λ e. absurd cc;
      there = λ some. ap (λ (o : Objects). o (cfg_name volume backup)) (m.there some);
      keeps = m.keeps;
      others = m.others;
      unmade = λ a b. absurd (a refl);
    })
tells_of volume backup copy (Err make_error.Exists) t old new is m =
    subst (λ x. StoreTells volume backup copy (reply_of x) old new) (sym is) (record {
      made = λ e. absurd cc;
      exists = λ e. m.answer;
      found = λ some. tt;
      differs = λ e. absurd cc;
      there = λ some. ap (λ (o : Objects). o (cfg_name volume backup)) (m.there some);
      keeps = m.keeps;
      others = m.others;
      unmade = λ a b. m.unmade refl;
    })
tells_of volume backup copy (Err make_error.NoReplica) t old new is m =
    subst (λ x. StoreTells volume backup copy (reply_of x) old new) (sym is) (record {
      made = λ e. absurd cc;
      exists = λ e. absurd cc;
      found = λ some. absurd (none_some _ m.answer some);
      differs = λ e. absurd cc;
      there = λ some. ap (λ (o : Objects). o (cfg_name volume backup)) (m.there some);
      keeps = m.keeps;
      others = m.others;
      unmade = λ a b. m.unmade refl;
    })
tells_of volume backup copy (Err (make_error.BlockDiffers c)) t old new is m =
    subst (λ x. StoreTells volume backup copy (reply_of x) old new) (sym is) (record {
      made = λ e. absurd cc;
      exists = λ e. absurd cc;
      found = λ some. absurd (none_some _ m.answer some);
      differs = λ e. (c, m.differs);
      there = λ some. ap (λ (o : Objects). o (cfg_name volume backup)) (m.there some);
      keeps = m.keeps;
      others = m.others;
      unmade = λ a b. m.unmade refl;
    })
tells_of volume backup copy (Err make_error.TargetFault) t old new is m =
    subst (λ x. StoreTells volume backup copy (reply_of x) old new) (sym is) (record {
      made = λ e. absurd cc;
      exists = λ e. absurd cc;
      found = λ some. tt;
      differs = λ e. absurd cc;
      there = λ some. ap (λ (o : Objects). o (cfg_name volume backup)) (m.there some);
      keeps = m.keeps;
      others = m.others;
      unmade = λ a b. absurd (b refl);
    })
tells_of volume backup copy (Err make_error.NoMemory) t old new is m = absurd is

pub count_of : (res : Result Listing MakeError) (t : Tried) (before now : ℕ) → IsTriedOf res t → HasFault is_make_fault before now res
    → now ≡ count_for (reply_of t) before
count_of (Ok list) t before now is h = subst (λ x. now ≡ count_for (reply_of x) before) (sym is) h.cause
count_of (Err make_error.Exists) t before now is h = subst (λ x. now ≡ count_for (reply_of x) before) (sym is) h.cause
count_of (Err make_error.NoReplica) t before now is h = subst (λ x. now ≡ count_for (reply_of x) before) (sym is) h.cause
count_of (Err (make_error.BlockDiffers c)) t before now is h = subst (λ x. now ≡ count_for (reply_of x) before) (sym is) h.cause
count_of (Err make_error.TargetFault) t before now is h = subst (λ x. now ≡ count_for (reply_of x) before) (sym is) h.cause
count_of (Err make_error.NoMemory) t before now is h = absurd is

pub list_of : (tells : Bool) (objects : Objects) (volume snapshot : List ℕ) (copy : Option (List ℕ)) (res : Result Listing MakeError)
    (t : Tried) → IsTriedOf res t → IfOk res (IsMade tells objects volume copy snapshot)
    → IsListOf tells objects volume snapshot copy t
list_of tells objects volume snapshot copy (Ok list) t is h =
    subst (IsListOf tells objects volume snapshot copy) (sym is) (h.named, h.backup)
list_of tells objects volume snapshot copy (Err make_error.Exists) t is h = subst (IsListOf tells objects volume snapshot copy) (sym is) tt
list_of tells objects volume snapshot copy (Err make_error.NoReplica) t is h =
    subst (IsListOf tells objects volume snapshot copy) (sym is) tt
list_of tells objects volume snapshot copy (Err (make_error.BlockDiffers c)) t is h =
    subst (IsListOf tells objects volume snapshot copy) (sym is) tt
list_of tells objects volume snapshot copy (Err make_error.TargetFault) t is h =
    subst (IsListOf tells objects volume snapshot copy) (sym is) tt
list_of tells objects volume snapshot copy (Err make_error.NoMemory) t is h = absurd is

pub live_for : (r : Reply) (copy : Option (List ℕ)) → IsSome copy → LiveFor r copy
live_for (reply.Refused refusal.TooLong) copy some = some
live_for (reply.Refused refusal.OutOfRange) copy some = some
live_for (reply.Refused refusal.Unsupported) copy some = some
live_for (reply.Refused refusal.NameUsed) copy some = some
live_for (reply.Refused refusal.ChainFull) copy some = some
live_for (reply.Refused refusal.NoSuchSnapshot) copy some = tt
live_for (reply.Refused refusal.NoReplica) copy some = some
live_for (reply.Refused refusal.InUse) copy some = some
live_for (reply.Refused refusal.BackupExists) copy some = some
live_for (reply.Refused refusal.BlockDiffers) copy some = some
live_for (reply.Refused refusal.TargetFault) copy some = some
live_for reply.Done copy some = some
live_for (reply.Read bytes) copy some = some
live_for (reply.Status layers modes) copy some = some
live_for (reply.Aborted place) copy some = some

-- a snapshot that cannot be used is answered so alone
live_none : (r : Reply) → LiveFor r None → r ≡ reply.Refused NoSuchSnapshot
live_none (reply.Refused refusal.TooLong) h = absurd (false≢true h)
live_none (reply.Refused refusal.OutOfRange) h = absurd (false≢true h)
live_none (reply.Refused refusal.Unsupported) h = absurd (false≢true h)
live_none (reply.Refused refusal.NameUsed) h = absurd (false≢true h)
live_none (reply.Refused refusal.ChainFull) h = absurd (false≢true h)
live_none (reply.Refused refusal.NoSuchSnapshot) h = refl
live_none (reply.Refused refusal.NoReplica) h = absurd (false≢true h)
live_none (reply.Refused refusal.InUse) h = absurd (false≢true h)
live_none (reply.Refused refusal.BackupExists) h = absurd (false≢true h)
live_none (reply.Refused refusal.BlockDiffers) h = absurd (false≢true h)
live_none (reply.Refused refusal.TargetFault) h = absurd (false≢true h)
live_none reply.Done h = absurd (false≢true h)
live_none (reply.Read bytes) h = absurd (false≢true h)
live_none (reply.Status layers modes) h = absurd (false≢true h)
live_none (reply.Aborted place) h = absurd (false≢true h)

-- an error is none that was made
pub none_done : (res : Result Listing MakeError) (t : Tried) → is_ok res ≡ false → IsTriedOf res t → reply_of t ≡ reply.Done → ⊥
none_done (Ok list) t not is done = absurd (false≢true (sym not))
none_done (Err make_error.Exists) t not is done = absurd cc
none_done (Err make_error.NoReplica) t not is done = absurd cc
none_done (Err (make_error.BlockDiffers c)) t not is done = absurd cc
none_done (Err make_error.TargetFault) t not is done = absurd cc
none_done (Err make_error.NoMemory) t not is done = absurd is

-- ---- the base

pub last_base : (tells : Bool) (objects : Objects) (volume : List ℕ) (m : Mine) (f : Copies) (asked : List ℕ) (base : Option (List ℕ))
    (list : Listing) → IsLast tells objects volume m.entries list → KeepsTold m f
    → IsBase tells objects volume (copies_of f asked base) list.snapshot list.blocks
last_base tells objects volume m f asked base list h told disk is =
    let now : IfSome (f list.snapshot) (λ now. now ≡ h.disk) = told h.at h.among list.snapshot h.disk h.copy in
    let here = subst (λ o. IfSome o (λ now. now ≡ h.disk)) (copies_known f asked base list.snapshot disk is) now in
    subst (λ d. IsBackup tells objects volume d list.blocks) (sym here) h.backup

pub base_is : (tells : Bool) (objects : Objects) (volume : List ℕ) (m m2 : Mine) (f : Copies) (asked : List ℕ) (base : Option (List ℕ))
    (last : Option Listing) → m2 ≡ m → IfSome last (IsLast tells objects volume m.entries) → IfSome base (λ n. KeepsTold m2 f)
    → is_some base ≡ true → IfSome last (λ b. IsBase tells objects volume (copies_of f asked base) b.snapshot b.blocks)
base_is tells objects volume m m2 f asked base None same h told is = tt
base_is tells objects volume m m2 f asked None (Some list) same h told is = absurd (false≢true is)
base_is tells objects volume m m2 f asked (Some n) (Some list) same h told is =
    last_base tells objects volume m f asked (Some n) list h (subst (λ (x : Mine). KeepsTold x f) same told)

-- ---- with another name for the same copy

pub makes_same : (volume backup : List ℕ) (a b : Option (List ℕ)) (res : Result Listing MakeError) (old new : Objects) → a ≡ b
    → MakesOf volume backup a res old new → MakesOf volume backup b res old new
makes_same volume backup a b res old new e m = subst (λ o. MakesOf volume backup o res old new) e m

pub made_same : (tells : Bool) (objects : Objects) (volume snapshot : List ℕ) (a b : Option (List ℕ)) (res : Result Listing MakeError)
    → a ≡ b → IfOk res (IsMade tells objects volume a snapshot) → IfOk res (IsMade tells objects volume b snapshot)
made_same tells objects volume snapshot a b res e m = subst (λ o. IfOk res (IsMade tells objects volume o snapshot)) e m

vac_ok : {T E : Type 0} (r : Result T E) (P : T → Type 0) → is_ok r ≡ false → IfOk r P
vac_ok (Ok x) P e = absurd (false≢true (sym e))
vac_ok (Err e) P is = tt

-- ---- where no replica is read

pub looked_at : (tells : Bool) (volume backup snapshot : List ℕ) (copy : Option (List ℕ)) (res : Result Listing MakeError) (t : Tried)
    (old new : Objects) (before now : ℕ) (m : Mine) → IsTriedOf res t → IsSome copy → is_ok res ≡ false
    → (tells ≡ true → (c : Option (List ℕ)) → MakesOf volume backup c res old new) → HasFault is_make_fault before now res
    → Tries tells volume backup snapshot copy t old new before now m
looked_at tells volume backup snapshot copy res t old new before now m is live not store cause = record {
  live = live_for (reply_of t) copy live;
  store = λ told. tells_of volume backup copy res t old new is (store told copy);
  count = count_of res t before now is cause;
  later = cause.later;
  list = list_of tells new volume snapshot copy res t is (vac_ok res (IsMade tells new volume copy snapshot) not);
  source = λ done. absurd (none_done res t not is done);
}

-- where one is
pub made_so : (tells : Bool) (volume backup snapshot : List ℕ) (copy : Option (List ℕ)) (res : Result Listing MakeError) (t : Tried)
    (old new : Objects) (before now : ℕ) (m : Mine) → IsTriedOf res t → IsSome copy
    → (tells ≡ true → MakesOf volume backup copy res old new) → IfOk res (IsMade tells new volume copy snapshot)
    → HasFault is_make_fault before now res → IfSome m.log (λ log. HasSource log.spot.modes)
    → Tries tells volume backup snapshot copy t old new before now m
made_so tells volume backup snapshot copy res t old new before now m is live store made cause source = record {
  live = live_for (reply_of t) copy live;
  store = λ told. tells_of volume backup copy res t old new is (store told);
  count = count_of res t before now is cause;
  later = cause.later;
  list = list_of tells new volume snapshot copy res t is made;
  source = λ done. source;
}

-- the snapshot cannot be used
pub none_such : (tells : Bool) (volume backup snapshot : List ℕ) (copy : Option (List ℕ)) (old : Objects) (before : ℕ) (m : Mine)
    → Tries tells volume backup snapshot copy (tried.Refused NoSuchSnapshot) old old before before m
none_such tells volume backup snapshot copy old before m = record {
  live = tt;
  store = λ told. tells_same volume backup copy old old refl;
  count = refl;
  later = omega (arith);
  list = tt;
  source = λ done. absurd cc;
}

read_is : (ms : List Mode) (s : ℕ) → mode_of ms s ≡ Rw → HasSource ms
read_is [] s e = absurd cc
read_is (m ∷ ms) zero e =
    subst (λ x. Contains (x ∷ ms) Rw) (sym e) (Contains-append_left (Rw ∷ []) ms Rw (Contains-push [] Rw))
read_is (m ∷ ms) (suc s) e = Contains-append_right (m ∷ []) ms Rw (read_is ms s e)

pub source_seen : (m m2 : Mine) (r : Option ℕ) → m2 ≡ m → is_some r ≡ true
    → IfSome m2.log (λ log. MatchOption r (HasNoSource log.spot.modes) (IsSource log.spot.modes))
    → IfSome m.log (λ log. HasSource log.spot.modes)
source_seen m m2 None same some h = absurd (false≢true some)
source_seen m m2 (Some r) same some h =
    at m.log (subst (λ (x : Mine). IfSome x.log (λ log. IsSource log.spot.modes r)) same h)
  where
    at : (log : Option Log) → IfSome log (λ log. IsSource log.spot.modes r) → IfSome log (λ log. HasSource log.spot.modes)
    at None k = tt
    at (Some l) k = read_is l.spot.modes r k.read

-- ---- try after try

pub adds_none : (volume : List ℕ) (old : Objects) → AddsBlocks volume old old
adds_none volume old = record { blocks = λ c bytes h. h; others = λ name no. refl }

pub adds_then : (volume : List ℕ) (a b c : Objects) → AddsBlocks volume a b → AddsBlocks volume b c → AddsBlocks volume a c
adds_then volume a b c f g = record {
  blocks = λ sum bytes h. g.blocks sum bytes (f.blocks sum bytes h);
  others = λ name no. g.others name no ∙ f.others name no;
}

pub since : (volume backup : List ℕ) (copy : Option (List ℕ)) (r : Reply) (first old new : Objects) → AddsBlocks volume first old
    → StoreTells volume backup copy r old new → StoreTells volume backup copy r first new
since volume backup copy r first old new adds t =
    let same = cfg_stays volume backup first old adds in
    record {
      made = t.made;
      exists = λ e. subst IsSome same (t.exists e);
      found = λ some. t.found (subst IsSome (sym same) some);
      differs = t.differs;
      there = λ some. t.there (subst IsSome (sym same) some) ∙ same;
      keeps = record {
        blocks = λ sum bytes h. t.keeps.blocks sum bytes (adds.blocks sum bytes h);
        cfgs = λ other apart. t.keeps.cfgs other apart ∙ cfg_stays volume other first old adds;
      };
      others = λ name a b d. t.others name a b d ∙ adds.others name a;
      unmade = λ a b name no. t.unmade a b name no ∙ adds.others name no;
    }

-- of the copy that the snapshot has where it is answered
pub tells_there : (volume backup : List ℕ) (copy : Option (List ℕ)) (disk : List ℕ) (r : Reply) (old new : Objects)
    → LiveFor r copy → ((d : List ℕ) → copy ≡ Some d → disk ≡ d) → StoreTells volume backup copy r old new
    → StoreTells volume backup (Some disk) r old new
tells_there volume backup (Some d) disk r old new live is t =
    subst (λ x. StoreTells volume backup (Some x) r old new) (sym (is d refl)) t
tells_there volume backup None disk r old new live is t =
    let none : r ≡ reply.Refused NoSuchSnapshot = live_none r live in
    record {
      made = λ e. absurd (no_done (sym e ∙ none));
      exists = t.exists;
      found = t.found;
      differs = λ e. absurd (no_differs (sym e ∙ none));
      there = t.there;
      keeps = t.keeps;
      others = t.others;
      unmade = t.unmade;
    }
  where
    no_done : reply.Done ≡ reply.Refused NoSuchSnapshot → ⊥
    no_done e = cc

    no_differs : reply.Refused BlockDiffers ≡ reply.Refused NoSuchSnapshot → ⊥
    no_differs e = cc

-- such an answer is refused only of a snapshot that cannot be used, or where there is no replica
pub retried : (t : Tried) (snapshot : List ℕ) (f g : Copies) (modes : List Mode) → KeepsCopies f g → LiveFor (reply_of t) (f snapshot)
    → RefusesEndBackup snapshot (reply_of t) g modes
    → (reply_of t ≢ reply.Done) × (reply_of t ≢ reply.Refused TargetFault)
retried (tried.Made list) snapshot f g modes kept live against =
    absurd (none_some _ against (still_live f g snapshot kept live))
retried (tried.Refused refusal.TooLong) snapshot f g modes kept live against = (λ e. absurd cc, λ e. absurd cc)
retried (tried.Refused refusal.OutOfRange) snapshot f g modes kept live against = (λ e. absurd cc, λ e. absurd cc)
retried (tried.Refused refusal.Unsupported) snapshot f g modes kept live against = (λ e. absurd cc, λ e. absurd cc)
retried (tried.Refused refusal.NameUsed) snapshot f g modes kept live against = (λ e. absurd cc, λ e. absurd cc)
retried (tried.Refused refusal.ChainFull) snapshot f g modes kept live against = (λ e. absurd cc, λ e. absurd cc)
retried (tried.Refused refusal.NoSuchSnapshot) snapshot f g modes kept live against = (λ e. absurd cc, λ e. absurd cc)
retried (tried.Refused refusal.NoReplica) snapshot f g modes kept live against = (λ e. absurd cc, λ e. absurd cc)
retried (tried.Refused refusal.InUse) snapshot f g modes kept live against = (λ e. absurd cc, λ e. absurd cc)
retried (tried.Refused refusal.BackupExists) snapshot f g modes kept live against =
    absurd (none_some _ against (still_live f g snapshot kept live))
retried (tried.Refused refusal.BlockDiffers) snapshot f g modes kept live against =
    absurd (none_some _ against (still_live f g snapshot kept live))
retried (tried.Refused refusal.TargetFault) snapshot f g modes kept live against =
    absurd (none_some _ against (still_live f g snapshot kept live))

pub count_kept : (r : Reply) (before : ℕ) → r ≢ reply.Refused TargetFault → count_for r before ≡ before
count_kept (reply.Refused refusal.TooLong) before not = refl
count_kept (reply.Refused refusal.OutOfRange) before not = refl
count_kept (reply.Refused refusal.Unsupported) before not = refl
count_kept (reply.Refused refusal.NameUsed) before not = refl
count_kept (reply.Refused refusal.ChainFull) before not = refl
count_kept (reply.Refused refusal.NoSuchSnapshot) before not = refl
count_kept (reply.Refused refusal.NoReplica) before not = refl
count_kept (reply.Refused refusal.InUse) before not = refl
count_kept (reply.Refused refusal.BackupExists) before not = refl
count_kept (reply.Refused refusal.BlockDiffers) before not = refl
count_kept (reply.Refused refusal.TargetFault) before not = absurd (not refl)
count_kept reply.Done before not = refl
count_kept (reply.Read bytes) before not = refl
count_kept (reply.Status layers modes) before not = refl
count_kept (reply.Aborted place) before not = refl

-- ---- the last backup

pub last_still : (tells : Bool) (old new : Objects) (volume : List ℕ) (xs ys zs : List Placed) (l l2 : Option Listing) → l2 ≡ l
    → ys ≡ xs ++ zs → (tells ≡ true → KeepsBlocks volume old new) → IfSome l (IsLast tells old volume xs)
    → IfSome l2 (IsLast tells new volume ys)
last_still tells old new volume xs ys zs l l2 same more keeps h =
    subst (λ o. IfSome o (IsLast tells new volume ys)) (sym same) (at l h)
  where
    at : (o : Option Listing) → IfSome o (IsLast tells old volume xs) → IfSome o (IsLast tells new volume ys)
    at None k = tt
    at (Some list) k = record {
      disk = k.disk;
      at = k.at;
      among = subst (λ ps. Contains ps k.at) (sym more) (Contains-append_left xs zs k.at k.among);
      copy = k.copy;
      backup = backup_stays tells old new volume k.disk list.blocks keeps k.backup;
    }

pub last_ends : (tells : Bool) (old new : Objects) (volume snapshot : List ℕ) (o : OwnCall) (t : Tried) (r : Reply) (f : Copies)
    (b m2 : Mine) (l l2 : Option Listing) → l2 ≡ last_of t l → LiveFor (reply_of t) (f snapshot)
    → IsListOf tells new volume snapshot (f snapshot) t → EndsBackup snapshot o r f b m2
    → (tells ≡ true → KeepsBlocks volume old new) → IfSome l (IsLast tells old volume b.entries)
    → IfSome l2 (IsLast tells new volume m2.entries)
last_ends tells old new volume snapshot o (tried.Made list) r f b m2 l l2 same live of_list e keeps h =
    subst (λ x. IfSome x (IsLast tells new volume m2.entries)) (sym same) (with_copy (f snapshot) refl live)
  where
    placed : Placed
    placed = answer_placed e.answers.spot e.answers.answer

    with_copy : (copy : Option (List ℕ)) → f snapshot ≡ copy → IsSome copy → IsLast tells new volume m2.entries list
    with_copy None is some = absurd (false≢true some)
    with_copy (Some disk) is some = record {
      disk = disk;
      at = placed;
      among = subst (λ ps. Contains ps placed) (sym (ap (λ (m : Mine). m.entries) e.answers.is)) (Contains-push b.entries placed);
      copy = subst (λ n. IsCopyOf e.answers.spot.state.volume n disk) (sym of_list.0) (e.copy disk is);
      backup = of_list.1 disk is;
    }
last_ends tells old new volume snapshot o (tried.Refused w) r f b m2 l l2 same live of_list e keeps h =
    last_still tells old new volume b.entries m2.entries (answer_placed e.answers.spot e.answers.answer ∷ []) l l2 same
    (ap (λ (m : Mine). m.entries) e.answers.is) keeps h

-- ---- its end

source_on : (m a b : Mine) (g : GoesOn m a) (k : GoesOn a b) → IfSome a.log (λ log. HasSource log.spot.modes)
    → IfSome m.log (λ log. AreMarks (goes_on m a b g k).marks → HasSource log.spot.modes)
source_on m a b g k h = at m.log refl
  where
    at : (log : Option Log) → m.log ≡ log → IfSome log (λ log. AreMarks (goes_on m a b g k).marks → HasSource log.spot.modes)
    at None is = tt
    at (Some l) is = λ are.
        let none = g.falls.none (goes_first m a b g k are) in
        let same : a.log ≡ Some l = ap (λ (x : Mine). x.log) g.is ∙ (λ i. longer (is i) (none i)) ∙ longer_none (Some l) in
        subst (λ x. IfSome x (λ (y : Log). HasSource y.spot.modes)) same h

pub backs_up : (tells : Bool) (volume backup snapshot : List ℕ) (o : OwnCall) (t : Tried) (r : Reply) (failed : Bool)
    (first old new : Objects) (before mid now : ℕ) (m a b m2 : Mine) (f : Copies) → r ≡ reply_of t
    → failed ≡ tells_fault (reply_of t) → (tells ≡ true → AddsBlocks volume first old) → mid ≡ before → (g : GoesOn m a)
    → (k : GoesOn a b) → Tries tells volume backup snapshot (f snapshot) t old new mid now a → EndsBackup snapshot o r f b m2
    → BacksUp tells volume backup snapshot o failed first new before now m m2
backs_up tells volume backup snapshot o t r failed first old new before mid now m a b m2 f is told adds count g k tries e = record {
  said = r;
  mid = b;
  goes = goes_on m a b g k;
  answers = e.answers;
  may = e.may;
  store = λ so. subst (λ x. StoreTells volume backup (Some (copy_of e.answers.spot.state.volume.copies snapshot)) x first new) (sym is)
      (tells_there volume backup (f snapshot) (copy_of e.answers.spot.state.volume.copies snapshot) (reply_of t) first new tries.live
      (λ d there. (e.copy d there).copy)
      (since volume backup (f snapshot) (reply_of t) first old new (adds so) (tries.store so)));
  count = tries.count ∙ (λ i. count_for (sym is i) (count i));
  later = omega (arith, tries.later, count);
  failed_is = told ∙ ap tells_fault (sym is);
  source = λ done. source_on m a b g k (tries.source (sym is ∙ done));
}

-- the command has the turn still
pub turn_at : (t : ℕ) (c : Command) (o : OwnCall) (a b : Mine) → GoesOn a b → HasTurn t c o a → HasTurn t c o b
turn_at t c o a b g h = record {
  is = goes_running a.running a b g ∙ h.is;
  number = h.number;
  call = h.call;
  wants = h.wants;
  started = h.started;
}
