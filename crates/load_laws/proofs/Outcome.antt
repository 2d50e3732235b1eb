-- What a run of a load comes to.
use Rattle.std.proofs.Common.{◌≡◌, ℕ, zero, suc, ◌+◌, ◌-◌, ◌⊎◌, ◌<◌, ◌≤◌, eqb, cond, Bool, true, false, List, [], ◌∷◌, ◌++◌}
use Rattle.std.proofs.Common.{take, drop, map, All, refl, sym, ap, subst, ◌∙◌, arith, inl, inr, ⊎_elim}
use Rattle.std.proofs.lemmas.Bool.{cases_order}
use Rattle.std.proofs.lemmas.List.{take_all}
use Rattle.vol_units.proofs.BytesLemmas.{length-zeros, take-slice}
use Rattle.volume_model.specs.declared.call.Call.{Call}
use Rattle.volume_model.specs.declared.call.Reply.TheVariants as reply
use Rattle.volume_model.specs.declared.entry.Entry.{Entry}
use Rattle.volume_model.specs.declared.entry.Entry.TheVariants as entry
use Rattle.volume_model.specs.declared.mark.Mark.{Mark}
use Rattle.volume_model.specs.declared.mark.Rebuild.TheVariants as rebuild
use Rattle.volume_model.specs.Snapshots.{chain_of}
use Rattle.volume_model.specs.Rebuilds.{EndsWith}
use Rattle.load_laws.specs.Load.{slice_size, slice_at, blank_disk, IsFrameIn, IsRunOfLoad}
use Rattle.load_laws.specs.Result.{replies_on, disk_left, slice_of, slices_left, replies_of, IsResultOf, HaveOneResult}
use Rattle.load_laws.proofs.Phases.{Begins, calls_in, Is}
use Rattle.load_laws.proofs.Calls.{calls_in_is, replies_in_is}
use Rattle.load_laws.proofs.Marks.{own_is}
use Rattle.load_laws.proofs.Runs.{RunsOut, runs_out}
use Rattle.load_laws.proofs.Slices.{agree_read}
use Rattle.load_laws.proofs.Alone.{IsAlone, slice_fits, is_alone, all_done, size_left}
use Rattle.load_laws.proofs.NoFaults.{no_fault_shown}

-- ---- where the run begins

-- before the first entry there is none
no_last : (m : Mark) → EndsWith [] m → ⊥
no_last m ends = go ends.0 ends.1
  where
    go : (front : List Entry) → [] ≡ front ++ entry.Mark m ∷ [] → ⊥
    go [] e = cc
    go (x ∷ xs) e = cc

-- no rebuild is asked for, of whichever replica
unasked : (b : Bool) → rebuild.Unasked ≡ cond b rebuild.Unasked rebuild.Unasked
unasked true = refl
unasked false = refl

-- the control stream has not begun
begins : (blank : List ℕ) → Is blank Begins blank []
begins blank = record {
  copies = [];
  state = refl;
  modes = refl;
  rebuilds = λ r. unasked (eqb 1 r);
  calm = λ m r ends falls. absurd (no_last m ends);
}

-- the calls of a stream are what its answers are of
calls_are : (slices : ℕ) (counted : ℕ → ℕ → ℕ) (calls : ℕ → List Call) (journal : List Entry) → IsRunOfLoad slices counted calls journal
    → (stream : ℕ) → calls_in stream journal ≡ calls stream
calls_are slices counted calls journal run stream = sym (calls_in_is stream 0 journal) ∙ run.history.each_once stream

-- the run comes to its end
comes_out : (slices : ℕ) (counted : ℕ → ℕ → ℕ) (calls : ℕ → List Call) (journal : List Entry) → IsRunOfLoad slices counted calls journal
    → RunsOut slices (blank_disk slices) (blank_disk slices) [] journal
comes_out slices counted calls journal run =
    let blank = blank_disk slices in
    let are = calls_are slices counted calls journal run in
    runs_out slices blank Begins blank [] journal (record {
      is = begins blank;
      size = length-zeros (slice_at slices);
      left = record {
        frames = λ stream low. subst (All (IsFrameIn stream)) (sym (are stream)) (run.load.frames stream low);
        control = are slices ∙ run.load.control;
        others = λ stream high. are stream ∙ run.load.others stream high;
      };
      owed = tt;
    }) run.history.legal run.history.fell
    (no_fault_shown (suc slices) 2 counted journal run.lines run.history.faults run.none)

-- ---- the disk

-- each slice of a disk, one behind the other, is the disk
joined : (disk blank : List ℕ) (calls : ℕ → List Call) (k : ℕ)
    → ((s : ℕ) → s < k → slice_of disk s ≡ slice_of (disk_left blank (calls s)) s)
    → take (slice_at k) disk ≡ slices_left blank calls k
joined disk blank calls zero same = let none : slice_at 0 ≡ 0 = omega arith in ap (λ n. take n disk) none
joined disk blank calls (suc k) same =
    let next : slice_at (suc k) ≡ slice_at k + slice_size = omega arith in
    let size : slice_size ≡ slice_at k + slice_size - slice_at k = omega arith in
    ap (λ n. take n disk) next ∙ sym (take-slice disk (slice_at k) slice_size)
    ∙ ap (λ l. l ++ take slice_size (drop (slice_at k) disk)) (joined disk blank calls k (λ s low. same s (omega (arith, low))))
    ∙ ap (λ n. slices_left blank calls k ++ take n (drop (slice_at k) disk)) size
    ∙ ap (λ l. slices_left blank calls k ++ l) (same k (omega arith))

-- ---- the result

-- a stream alone, on a blank disk
alone_in : (slices s : ℕ) (es : List Entry) → s < slices → (out : RunsOut slices (blank_disk slices) (blank_disk slices) [] es)
    → IsAlone slices s (blank_disk slices) out.final es
alone_in slices s es low out = is_alone slices s low (blank_disk slices) (blank_disk slices) out.final es out.runs
    (length-zeros (slice_at slices)) (length-zeros (slice_at slices)) (λ i from to. refl)

-- it leaves its slice as the run does
slice_left : (slices s : ℕ) (es : List Entry) → s < slices → (out : RunsOut slices (blank_disk slices) (blank_disk slices) [] es)
    → slice_of out.final s ≡ slice_of (disk_left (blank_disk slices) (calls_in s es)) s
slice_left slices s es low out =
    let alone = alone_in slices s es low out in
    let size = size_left slices (blank_disk slices) out.final es out.runs (length-zeros (slice_at slices)) in
    let fits = slice_fits s slices low in
    let next : slice_at s + slice_size ≤ slice_at (suc s) = omega arith in
    agree_read (slice_at s) (slice_at (suc s)) (slice_at s) slice_size out.final (disk_left (blank_disk slices) (calls_in s es))
    (omega arith) next (omega (arith, size, fits)) (omega (arith, alone.size, fits)) alone.same

-- so the disk is made of such slices
disk_is : (slices : ℕ) (calls : ℕ → List Call) (es : List Entry) (out : RunsOut slices (blank_disk slices) (blank_disk slices) [] es)
    → ((s : ℕ) → calls_in s es ≡ calls s) → out.final ≡ slices_left (blank_disk slices) calls slices
disk_is slices calls es out are =
    let blank = blank_disk slices in
    let size = size_left slices blank out.final es out.runs (length-zeros (slice_at slices)) in
    sym (take_all (slice_at slices) out.final (omega (arith, size)))
    ∙ joined out.final blank calls slices
    (λ s low. slice_left slices s es low out ∙ ap (λ cs. slice_of (disk_left blank cs) s) (are s))

-- all of it
pub has_result : (slices : ℕ) (counted : ℕ → ℕ → ℕ) (calls : ℕ → List Call) (journal : List Entry)
    → IsRunOfLoad slices counted calls journal → IsResultOf slices calls journal
has_result slices counted calls journal run =
    let blank = blank_disk slices in
    let are = calls_are slices counted calls journal run in
    let out = comes_out slices counted calls journal run in
    record {
      control = replies_in_is slices 0 journal ∙ all_done slices blank out.final journal out.runs
          ∙ ap (map (λ c. reply.Done)) (are slices ∙ run.load.control);
      modes = out.ends.modes;
      chain = ap (λ s. chain_of s.volume.snapshots) out.ends.state ∙ ap (λ n. (n, false) ∷ []) (sym own_is);
      frames = λ s low. replies_in_is s 0 journal ∙ (alone_in slices s journal low out).replies ∙ ap (replies_on blank) (are s);
      disk = ap (λ s. s.volume.disk) out.ends.state ∙ disk_is slices calls journal out are;
    }

-- two journals with the result of one load have one result
pub one_result : (slices : ℕ) (calls : ℕ → List Call) (journal other : List Entry)
    → IsResultOf slices calls journal → IsResultOf slices calls other → HaveOneResult slices journal other
one_result slices calls journal other this that = record {
  replies = λ stream most. ⊎_elim
      (λ is. ap (λ n. replies_of n journal) is ∙ this.control ∙ sym that.control ∙ ap (λ n. replies_of n other) (sym is))
      (λ low. this.frames stream low ∙ sym (that.frames stream low))
      (last_or_before stream slices most);
  modes = this.modes ∙ sym that.modes;
  chain = this.chain ∙ sym that.chain;
  disk = this.disk ∙ sym that.disk;
}
  where
    last_or_before : (n k : ℕ) → n ≤ k → (n ≡ k) ⊎ (n < k)
    last_or_before n k most = ⊎_elim (λ same. inl same)
        (λ other. ⊎_elim (λ low. inr low) (λ high. absurd (omega (arith, most, high))) other) (cases_order n k)
