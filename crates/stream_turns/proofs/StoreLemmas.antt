-- What a stream's backups tell of the target, told of the run that they are part of.
use Rattle.std.proofs.Common.{◌≡◌, ℕ, ◌+◌, ◌-◌, ◌^◌, ◌≤◌, inl, inr, ⊎_elim, ◌⊎◌, Bool, true, false, cond, List, [], ◌∷◌, ◌++◌}
use Rattle.std.proofs.Common.{sym, refl, ap, subst, ◌∙◌, arith, append_assoc, append-nil, eq-eqb}
use Rattle.std.specs.Prelude.{Any, Option, None, Some, IsSome}
use Rattle.std.proofs.lemmas.List.{map-append}
use Rattle.std.proofs.Math.Nat.{le-min, min-le_left, min-le_right}
use Rattle.outer_traits.specs.Causes.{one_more}
use Rattle.target_traits.specs.Objects.{Objects}
use Rattle.backup_units.specs.Blocks.{KeepsBlocks}
use Rattle.backup_units.specs.Names.{cfg_name}
use Rattle.backup_make.proofs.BackupLemmas.{backup_lasts}
use Rattle.volume_model.specs.declared.call.Call.TheVariants as call
use Rattle.volume_model.specs.declared.command.Command.TheVariants as command
use Rattle.volume_model.specs.declared.call.Reply.{Reply}
use Rattle.volume_model.specs.declared.entry.Answer.{Answer}
use Rattle.volume_model.specs.declared.entry.Entry.{Entry}
use Rattle.volume_model.specs.declared.entry.Entry.TheVariants as entry
use Rattle.volume_model.specs.History.{Spot}
use Rattle.volume_model.specs.OneWorker.{behind_entries}
use Rattle.volume_model.specs.PlainState.{copy_of}
use Rattle.volume_model.proofs.PurgeLemmas.{any_here, any_later, any_cases}
use Rattle.volume_model.proofs.ServedLemmas.{behind-append}
use Rattle.stream_steps.specs.Mine.{Placed, entries_in}
use Rattle.control_worker.specs.Store.{MakesBackup, IsThere, IsToldBy, AreToldFrom, IsWell, StoreSoFar}
use Rattle.world_holder.specs.View.{is_own, own_entries}
use Rattle.world_holder.proofs.Entries.{own-append}
use Rattle.stream_turns.specs.Store.{StoreOfRun}

-- ---- lists

-- an element of two lists stands in the first or in the second
pub cut : {A : Type 0} (xs ys front back : List A) (x : A) → xs ++ ys ≡ front ++ x ∷ back
    → ((mid : List A) × (xs ≡ front ++ x ∷ mid)) ⊎ ((gap : List A) × (front ≡ xs ++ gap) × (ys ≡ gap ++ x ∷ back))
cut [] ys front back x e = inr (front, refl, e)
cut {A} (y ∷ xs) ys [] back x e = inl (xs, λ i. first_is e i ∷ xs)
  where
    first_is : {y x : A} {xs ys : List A} → y ∷ xs ≡ x ∷ ys → y ≡ x
    first_is {y} {x} {xs} {ys} e = cc
cut {A} (y ∷ xs) ys (f ∷ front) back x e = ⊎_elim
    (λ at. inl (at.0, λ i. first_is e i ∷ at.1 i))
    (λ at. inr (at.0, (λ i. sym (first_is e) i ∷ at.1 i), at.2))
    (cut xs ys front back x (rest_is e))
  where
    first_is : {y x : A} {xs ys : List A} → y ∷ xs ≡ x ∷ ys → y ≡ x
    first_is {y} {x} {xs} {ys} e = cc

    rest_is : {y x : A} {xs ys : List A} → y ∷ xs ≡ x ∷ ys → xs ≡ ys
    rest_is {y} {x} {xs} {ys} e = cc

-- one of the elements is such, in between
pub any_between : {A : Type 0} (P : A → Type 0) (xs : List A) → Any P xs
    → (front : List A) × (back : List A) × (x : A) × (xs ≡ front ++ x ∷ back) × P x
any_between P [] any = absurd (omega (arith, any.2))
any_between P (x ∷ xs) any = ⊎_elim
    (λ p. ([], xs, x, refl, p))
    (λ more. let at = any_between P xs more in (x ∷ at.0, at.1, at.2, (λ i. x ∷ at.3 i), at.4))
    (any_cases P x xs any)

pub any_left : {A : Type 0} (P : A → Type 0) (xs ys : List A) → Any P xs → Any P (xs ++ ys)
any_left P [] ys any = absurd (omega (arith, any.2))
any_left P (x ∷ xs) ys any = ⊎_elim (λ p. any_here P x (xs ++ ys) p) (λ more. any_later P x (xs ++ ys) (any_left P xs ys more))
    (any_cases P x xs any)

pub any_right : {A : Type 0} (P : A → Type 0) (xs ys : List A) → Any P ys → Any P (xs ++ ys)
any_right P [] ys any = any
any_right P (x ∷ xs) ys any = any_later P x (xs ++ ys) (any_right P xs ys any)

pub any_middle : {A : Type 0} (P : A → Type 0) (front back : List A) (x : A) → P x → Any P (front ++ x ∷ back)
any_middle P front back x p = any_right P front (x ∷ back) (any_here P x back p)

pub any_parts : {A : Type 0} (P : A → Type 0) (xs ys : List A) → Any P (xs ++ ys) → Any P xs ⊎ Any P ys
any_parts P [] ys any = inr any
any_parts P (x ∷ xs) ys any = ⊎_elim (λ p. inl (any_here P x xs p))
    (λ more. ⊎_elim (λ a. inl (any_later P x xs a)) (λ a. inr a) (any_parts P xs ys more)) (any_cases P x (xs ++ ys) any)

-- ---- of a stream's own entries

one_made : (b : Bool) (spot : Spot) (e : Entry) (more : List Placed) (es : List Entry) (backup : List ℕ)
    → (Any (MakesBackup backup) (entries_in more) → Any (MakesBackup backup) es)
    → Any (MakesBackup backup) (entries_in (cond b (record { spot = spot; entry = e } ∷ more) more)) → Any (MakesBackup backup) (e ∷ es)
one_made false spot e more es backup rest any = any_later (MakesBackup backup) e es (rest any)
one_made true spot e more es backup rest any = ⊎_elim (λ p. any_here (MakesBackup backup) e es p)
    (λ later. any_later (MakesBackup backup) e es (rest later)) (any_cases (MakesBackup backup) e (entries_in more) any)

-- one of its own that makes a backup is one of all
own_made : (w : ℕ) (spot : Spot) (es : List Entry) (backup : List ℕ) → Any (MakesBackup backup) (entries_in (own_entries w spot es))
    → Any (MakesBackup backup) es
own_made w spot [] backup any = any
own_made w spot (e ∷ es) backup any = one_made (is_own w e) spot e (own_entries w (behind_entries spot (e ∷ [])) es) es backup
    (own_made w (behind_entries spot (e ∷ [])) es backup) any

-- its own up to one of its answers, that, and those behind it
own_around : (w : ℕ) (spot : Spot) (front back : List Entry) (a : Answer) → a.stream ≡ w
    → own_entries w spot (front ++ entry.Answer a ∷ back) ≡ own_entries w spot front
    ++ (record { spot = behind_entries spot front; entry = entry.Answer a }
    ∷ own_entries w (behind_entries (behind_entries spot front) (entry.Answer a ∷ [])) back)
own_around w spot front back a by = own-append w spot front (entry.Answer a ∷ back) ∙ ap (λ l. own_entries w spot front ++ l)
    (ap (λ b. cond b (p ∷ more) more) (eq-eqb a.stream w by))
  where
    p : Placed
    p = record { spot = behind_entries spot front; entry = entry.Answer a }

    more : List Placed
    more = own_entries w (behind_entries (behind_entries spot front) (entry.Answer a ∷ [])) back

-- what is told of each is told of one of them
module _ (first now : Objects) (volume : List ℕ) (well : Type 0) where
  told_behind : (before : List Entry) (ps qs : List Placed) → AreToldFrom first now volume well before (ps ++ qs)
      → AreToldFrom first now volume well (before ++ entries_in ps) qs
  told_behind before [] qs told = subst (λ l. AreToldFrom first now volume well l qs) (sym (append-nil before)) told
  told_behind before (p ∷ ps) qs told =
      subst (λ l. AreToldFrom first now volume well l qs) (append_assoc before (p.entry ∷ []) (entries_in ps))
      (told_behind (before ++ p.entry ∷ []) ps qs told.1)

-- ---- a target that goes on

-- what was told of a backup stays told while the target keeps its blocks and cfgs
told_stays : (first old now : Objects) (volume : List ℕ) (well well2 : Type 0) (before : List Entry) (spot : Spot)
    (backup snapshot : List ℕ) (r : Reply) → KeepsBlocks volume old now
    → ((backup bytes : List ℕ) → old (cfg_name volume backup) ≡ Some bytes → now (cfg_name volume backup) ≡ Some bytes)
    → (well2 → well) → IsToldBy first old volume well before spot backup snapshot r
    → IsToldBy first now volume well2 before spot backup snapshot r
told_stays first old now volume well well2 before spot backup snapshot r blocks kept as_well told = record {
  made = λ done. let has = told.made done in
      backup_lasts old now volume backup (copy_of spot.state.volume.copies snapshot) blocks
      (kept backup _ has.there ∙ sym has.there) has;
  exists = λ is refused. told.exists (as_well is) refused;
  there = told.there;
  differs = λ refused. let at = told.differs refused in (
    at.0,
    λ disk copy.
        let page = at.1 disk copy in (
          page.0,
          page.1,
          record {
            listed = page.2.listed;
            other = (page.2.other.0, blocks at.0 page.2.other.0 page.2.other.1, page.2.other.2);
          },
        ),
  );
  failed = λ refused is. told.failed refused (as_well is);
}

-- a count rises no less where there was more
one_more_later : (a b : ℕ) → a ≤ b → one_more a ≤ one_more b
one_more_later a b ab = le-min (omega (arith, min-le_left (a + 1) (2 ^ 64 - 1), ab)) (min-le_right (a + 1) (2 ^ 64 - 1))

-- Of a target that held this at first, that before a stream's turn, and this behind it.
module _ (first : Objects) (from : ℕ) (old : Objects) (at : ℕ) (now : Objects) (count : ℕ) (volume : List ℕ) (w : ℕ) (spot : Spot)
    (before added : List Entry) (none : own_entries w spot before ≡ []) (run : StoreOfRun first from old at volume spot before)
    (far : StoreSoFar old at now count volume (own_entries w spot (before ++ added)))
    (by : (front back : List Entry) (a : Answer) (backup snapshot : List ℕ) → added ≡ front ++ entry.Answer a ∷ back
    → a.call ≡ call.Command (command.Backup backup snapshot) → a.stream ≡ w) where
  abbrev there : Spot
  there = behind_entries spot before

  own_is : (es : List Entry) → own_entries w spot (before ++ es) ≡ own_entries w there es
  own_is es = own-append w spot before es ∙ ap (λ l. l ++ own_entries w there es) none

  -- if it has not failed since the first, it had not then, and has not since
  well_then : IsWell from count → IsWell from at
  well_then is = omega (arith, is, far.later)

  well_since : IsWell from count → IsWell at count
  well_since is = omega (arith, is, one_more_later from at run.later)

  -- what is there for the stream's own entries is there for all
  there_now : (es : List Entry) (backup : List ℕ) → IsWell from at
      → IsThere old volume (entries_in (own_entries w there es)) backup → IsThere first volume (before ++ es) backup
  there_now es backup is = ⊎_elim
      (λ had. ⊎_elim (λ f. inl f) (λ made. inr (any_left (MakesBackup backup) before es made)) (run.cfgs is backup had))
      (λ made. inr (any_right (MakesBackup backup) before es (own_made w there es backup made)))

  is_some_of : (o : Option (List ℕ)) (bytes : List ℕ) → o ≡ Some bytes → IsSome o
  is_some_of o bytes e = rw e refl

  some_is : (o : Option (List ℕ)) → IsSome o → (bytes : List ℕ) × (o ≡ Some bytes)
  some_is None is = absurd cc
  some_is (Some bytes) is = (bytes, refl)

  -- one of the entries before that makes a backup left its cfg
  made_then : (backup : List ℕ) → Any (MakesBackup backup) before → IsSome (old (cfg_name volume backup))
  made_then backup made = one (any_between (MakesBackup backup) before made)
    where
      one : (front : List Entry) × (back : List Entry) × (e : Entry) × (before ≡ front ++ e ∷ back) × MakesBackup backup e
          → IsSome (old (cfg_name volume backup))
      one (front, back, entry.Answer a, is, makes) =
          let has = (run.told front back a backup makes.0 is makes.1).made makes.2 in
          is_some_of (old (cfg_name volume backup)) _ has.there
      one (front, back, entry.Mark m, is, makes) = absurd makes

  -- what is there for all was there before the turn, or is for its own entries
  there_then : (es back : List Entry) (backup : List ℕ) → added ≡ es ++ back → IsThere first volume (before ++ es) backup
      → IsThere old volume (entries_in (own_entries w there es)) backup
  there_then es back backup is = ⊎_elim
      (λ had. let bytes = some_is (first (cfg_name volume backup)) had in
      inl (is_some_of (old (cfg_name volume backup)) bytes.0 (run.kept backup bytes.0 bytes.1)))
      (λ made. ⊎_elim (λ then. inl (made_then backup then))
      (λ since. inr (own (any_between (MakesBackup backup) es since))) (any_parts (MakesBackup backup) before es made))
    where
      own : (front : List Entry) × (behind : List Entry) × (e : Entry) × (es ≡ front ++ e ∷ behind) × MakesBackup backup e
          → Any (MakesBackup backup) (entries_in (own_entries w there es))
      own (front, behind, entry.Answer a, at, makes) =
          let own_a = by front (behind ++ back) a backup makes.0
          (is ∙ ap (λ l. l ++ back) at ∙ append_assoc front (entry.Answer a ∷ behind) back) makes.1 in
          let p : Placed = record { spot = behind_entries there front; entry = entry.Answer a } in
          let more = own_entries w (behind_entries (behind_entries there front) (entry.Answer a ∷ [])) behind in
          subst (λ l. Any (MakesBackup backup) l)
          (sym (ap (λ l. entries_in (own_entries w there l)) at ∙ ap entries_in (own_around w there front behind a own_a)
          ∙ map-append (λ (q : Placed). q.entry) (own_entries w there front) (p ∷ more)))
          (any_middle (MakesBackup backup) (entries_in (own_entries w there front)) (entries_in more) (entry.Answer a) makes)
      own (front, behind, entry.Mark m, at, makes) = absurd makes

  told_own : (gap back : List Entry) (a : Answer) (backup snapshot : List ℕ) → added ≡ gap ++ entry.Answer a ∷ back
      → a.call ≡ call.Command (command.Backup backup snapshot)
      → IsToldBy old now volume (IsWell at count) (entries_in (own_entries w there gap)) (behind_entries there gap) backup snapshot a.reply
  told_own gap back a backup snapshot is asks = one.0 a backup snapshot refl asks
    where
      more : List Placed
      more = own_entries w (behind_entries (behind_entries there gap) (entry.Answer a ∷ [])) back

      p : Placed
      p = record { spot = behind_entries there gap; entry = entry.Answer a }

      own_all : own_entries w spot (before ++ added) ≡ own_entries w there gap ++ p ∷ more
      own_all = own_is added ∙ ap (own_entries w there) is
          ∙ own_around w there gap back a (by gap back a backup snapshot is asks)

      one : AreToldFrom old now volume (IsWell at count) ([] ++ entries_in (own_entries w there gap)) (p ∷ more)
      one = told_behind old now volume (IsWell at count) [] (own_entries w there gap) (p ∷ more)
          (subst (AreToldFrom old now volume (IsWell at count) []) own_all far.told)

  pub store_more : StoreOfRun first from now count volume spot (before ++ added)
  store_more = record {
    told = λ front back a backup snapshot is asks. ⊎_elim
        (λ c. told_stays first old now volume (IsWell from at) (IsWell from count) front (behind_entries spot front) backup snapshot a.reply
        far.blocks far.kept well_then (run.told front c.0 a backup snapshot c.1 asks))
        (λ c. since front back c.0 a backup snapshot c.1 c.2 asks)
        (cut before added front back (entry.Answer a) is);
    cfgs = λ is backup had. there_now added backup (well_then is)
        (subst (λ ps. IsThere old volume (entries_in ps) backup) (own_is added) (far.cfgs (well_since is) backup had));
    blocks = λ checksum bytes held. far.blocks checksum bytes (run.blocks checksum bytes held);
    kept = λ backup bytes had. far.kept backup bytes (run.kept backup bytes had);
    others = λ name no_block no_cfg no_volume. far.others name no_block no_cfg no_volume ∙ run.others name no_block no_cfg no_volume;
    later = omega (arith, run.later, far.later);
  }
    where
      since : (front back gap : List Entry) (a : Answer) (backup snapshot : List ℕ) → front ≡ before ++ gap
          → added ≡ gap ++ entry.Answer a ∷ back → a.call ≡ call.Command (command.Backup backup snapshot)
          → IsToldBy first now volume (IsWell from count) front (behind_entries spot front) backup snapshot a.reply
      since front back gap a backup snapshot at_front is asks =
          let told = told_own gap back a backup snapshot is asks in
          subst (λ l. IsToldBy first now volume (IsWell from count) l (behind_entries spot l) backup snapshot a.reply) (sym at_front)
          (subst (λ s. IsToldBy first now volume (IsWell from count) (before ++ gap) s backup snapshot a.reply)
          (sym (behind-append spot before gap)) (record {
            made = told.made;
            exists = λ well refused. there_now gap backup (well_then well) (told.exists (well_since well) refused);
            there = λ fits had. told.there fits (there_then gap (entry.Answer a ∷ back) backup is had);
            differs = told.differs;
            failed = λ refused well. told.failed refused (well_since well);
          }))

-- ---- a target that stays

-- nor of the stream's own entries
pub far_none : (first : Objects) (from : ℕ) (volume : List ℕ) → StoreSoFar first from first from volume []
far_none first from volume = record {
  told = tt;
  cfgs = λ is backup had. inl had;
  blocks = λ checksum bytes held. held;
  kept = λ backup bytes had. had;
  others = λ name no_block no_cfg no_volume. refl;
  later = omega arith;
}

-- nothing happened yet
pub store_none : (first : Objects) (from : ℕ) (volume : List ℕ) (spot : Spot) → StoreOfRun first from first from volume spot []
store_none first from volume spot = record {
  told = λ front back a backup snapshot is asks. absurd (no_entry front (entry.Answer a) back is);
  cfgs = λ is backup had. inl had;
  blocks = λ checksum bytes held. held;
  kept = λ backup bytes had. had;
  others = λ name no_block no_cfg no_volume. refl;
  later = omega arith;
}
  where
    no_entry : (front : List Entry) (e : Entry) (back : List Entry) → [] ≡ front ++ e ∷ back → ⊥
    no_entry [] e back is = cc
    no_entry (f ∷ front) e back is = cc

-- what comes answers no backup
pub store_idle : (first : Objects) (from : ℕ) (now : Objects) (count : ℕ) (volume : List ℕ) (spot : Spot) (before added : List Entry)
    → ((front back : List Entry) (a : Answer) (backup snapshot : List ℕ) → added ≡ front ++ entry.Answer a ∷ back
    → a.call ≡ call.Command (command.Backup backup snapshot) → ⊥)
    → StoreOfRun first from now count volume spot before → StoreOfRun first from now count volume spot (before ++ added)
store_idle first from now count volume spot before added none run = record {
  told = λ front back a backup snapshot is asks. ⊎_elim (λ c. run.told front c.0 a backup snapshot c.1 asks)
      (λ c. absurd (none c.0 back a backup snapshot c.2 asks)) (cut before added front back (entry.Answer a) is);
  cfgs = λ is backup had. ⊎_elim (λ f. inl f) (λ made. inr (any_left (MakesBackup backup) before added made)) (run.cfgs is backup had);
  blocks = run.blocks;
  kept = run.kept;
  others = run.others;
  later = run.later;
}
