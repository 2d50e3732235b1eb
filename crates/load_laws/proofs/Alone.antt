-- A stream of frames is answered as if it were alone, and leaves its slice so.
use Rattle.std.proofs.Common.{◌≡◌, ◌⊎◌, ℕ, suc, ◌+◌, ◌<◌, ◌≤◌, List, [], ◌∷◌, length, map, pos, negsuc}
use Rattle.std.proofs.Common.{refl, sym, ap, subst, ◌∙◌, arith, inl, inr, ⊎_elim, mul-le-mul_right}
use Rattle.std.proofs.lemmas.Bool.{cases_order, cases_eq}
use Rattle.volume_model.specs.declared.call.Call.{Call}
use Rattle.volume_model.specs.declared.call.Call.TheVariants as call
use Rattle.volume_model.specs.declared.call.Reply.{Reply}
use Rattle.volume_model.specs.declared.call.Reply.TheVariants as reply
use Rattle.volume_model.specs.declared.entry.Answer.{Answer}
use Rattle.volume_model.specs.declared.entry.Entry.{Entry}
use Rattle.volume_model.specs.declared.entry.Entry.TheVariants as entry
use Rattle.load_laws.specs.Load.{slice_size, slice_at, LieIn, IsFrameIn}
use Rattle.load_laws.specs.Result.{reply_on, disk_after, replies_on, disk_left}
use Rattle.load_laws.proofs.Phases.{calls_in, replies_in}
use Rattle.load_laws.proofs.Calls.{own_call, other_call, own_reply, other_reply}
use Rattle.load_laws.proofs.Frames.{within_slices, size_behind}
use Rattle.load_laws.proofs.Runs.{Runs}
use Rattle.load_laws.proofs.Slices.{Agree, agree_write, agree_apart, agree_read}

-- the same on a slice
abbrev pub AgreeOn : ℕ → List ℕ → List ℕ → Type 0
AgreeOn slice disk other = Agree (slice_at slice) (slice_at (suc slice)) disk other

-- ---- a frame, on two disks that are the same on its slice

-- the slice lies within so many slices
pub slice_fits : (slice slices : ℕ) → slice < slices → slice_at (suc slice) ≤ slice_at slices
slice_fits slice slices low = mul-le-mul_right slice_size low

-- it is answered the same
same_reply : (slice slices : ℕ) (disk other : List ℕ) (c : Call) → slice < slices → IsFrameIn slice c → length disk ≡ slice_at slices
    → length other ≡ slice_at slices → AgreeOn slice disk other → reply_on disk c ≡ reply_on other c
same_reply slice slices disk other (call.Read (pos at) count) low frame size size_too agree =
    let fits = slice_fits slice slices low in
    ap reply.Read (agree_read (slice_at slice) (slice_at (suc slice)) at count disk other frame.0.from frame.0.to
    (omega (arith, size, fits)) (omega (arith, size_too, fits)) agree)
same_reply slice slices disk other (call.Read (negsuc at) count) low frame size size_too agree = absurd frame
same_reply slice slices disk other (call.Write offset bytes) low frame size size_too agree = refl
same_reply slice slices disk other call.Ping low frame size size_too agree = refl
same_reply slice slices disk other (call.Other kind) low frame size size_too agree = refl
same_reply slice slices disk other (call.Command c) low frame size size_too agree = refl

-- and leaves them the same there
same_after : (slice slices : ℕ) (disk other : List ℕ) (c : Call) → slice < slices → IsFrameIn slice c → length disk ≡ slice_at slices
    → length other ≡ slice_at slices → AgreeOn slice disk other → AgreeOn slice (disk_after disk c) (disk_after other c)
same_after slice slices disk other (call.Read offset count) low frame size size_too agree = agree
same_after slice slices disk other (call.Write (pos at) bytes) low frame size size_too agree =
    let within = within_slices slice slices at (length bytes) low frame in
    agree_write (slice_at slice) (slice_at (suc slice)) at bytes disk other (omega (arith, within, size)) (omega (arith, within, size_too))
    agree
same_after slice slices disk other (call.Write (negsuc at) bytes) low frame size size_too agree = absurd frame
same_after slice slices disk other call.Ping low frame size size_too agree = agree
same_after slice slices disk other (call.Other kind) low frame size size_too agree = agree
same_after slice slices disk other (call.Command c) low frame size size_too agree = agree

-- of two slices one lies before the other
apart_slices : (slice s at count : ℕ) → (slice ≡ s → ⊥) → LieIn slice at count
    → (at + count ≤ slice_at s) ⊎ (slice_at (suc s) ≤ at)
apart_slices slice s at count apart lie = ⊎_elim
    (λ same. absurd (apart same))
    (λ other. ⊎_elim
    (λ low. let below = slice_fits slice s low in inl (omega (arith, lie.to, below)))
    (λ high. let above = slice_fits s slice high in inr (omega (arith, lie.from, above)))
    other)
    (cases_order slice s)

-- a frame in another slice leaves them the same
apart_after : (slice s slices : ℕ) (disk other : List ℕ) (c : Call) → slice < slices → (slice ≡ s → ⊥) → IsFrameIn slice c
    → length disk ≡ slice_at slices → AgreeOn s disk other → AgreeOn s (disk_after disk c) other
apart_after slice s slices disk other (call.Read offset count) low apart frame size agree = agree
apart_after slice s slices disk other (call.Write (pos at) bytes) low apart frame size agree =
    let within = within_slices slice slices at (length bytes) low frame in
    agree_apart (slice_at s) (slice_at (suc s)) at bytes disk other (omega (arith, within, size))
    (apart_slices slice s at (length bytes) apart frame) agree
apart_after slice s slices disk other (call.Write (negsuc at) bytes) low apart frame size agree = absurd frame
apart_after slice s slices disk other call.Ping low apart frame size agree = agree
apart_after slice s slices disk other (call.Other kind) low apart frame size agree = agree
apart_after slice s slices disk other (call.Command c) low apart frame size agree = agree

-- ---- a run

-- a run keeps the size of the disk
pub size_left : (slices : ℕ) (disk final : List ℕ) (es : List Entry) → Runs slices disk final es → length disk ≡ slice_at slices
    → length final ≡ slice_at slices
size_left slices disk final [] runs size = ap length (sym runs) ∙ size
size_left slices disk final (entry.Mark m ∷ es) runs size = ⊎_elim (λ frame. absurd frame.0)
    (λ control. size_left slices disk final es control.1 size) runs
size_left slices disk final (entry.Answer a ∷ es) runs size = ⊎_elim
    (λ frame. size_left slices (disk_after disk a.call) final es frame.1
    (size_behind a.stream slices disk a.call frame.0.0 frame.0.1 size))
    (λ control. size_left slices disk final es control.1 size)
    runs

-- the stream's replies are those of a disk of its own, on which it leaves its slice as the run does
pub record IsAlone (slices s : ℕ) (own final : List ℕ) (es : List Entry) : Type 0 where
  pub replies : replies_in s es ≡ replies_on own (calls_in s es)
  pub same : AgreeOn s final (disk_left own (calls_in s es))
  pub size : length (disk_left own (calls_in s es)) ≡ slice_at slices

-- behind a frame of its own
alone_own : (slices s : ℕ) (own final : List ℕ) (a : Answer) (es : List Entry) → a.stream ≡ s → a.reply ≡ reply_on own a.call
    → IsAlone slices s (disk_after own a.call) final es → IsAlone slices s own final (entry.Answer a ∷ es)
alone_own slices s own final a es is said alone =
    let calls = own_call s a es is in
    record {
      replies = own_reply s a es is ∙ joined a.reply (reply_on own a.call) _ _ said alone.replies ∙ sym (ap (replies_on own) calls);
      same = subst (λ cs. AgreeOn s final (disk_left own cs)) (sym calls) alone.same;
      size = ap (λ cs. length (disk_left own cs)) calls ∙ alone.size;
    }
  where
    joined : (r q : Reply) (rs qs : List Reply) → r ≡ q → rs ≡ qs → r ∷ rs ≡ q ∷ qs
    joined r q rs qs e f = cc

-- and behind what is none of its own
alone_other : (slices s : ℕ) (own final : List ℕ) (a : Answer) (es : List Entry) → (a.stream ≡ s → ⊥)
    → IsAlone slices s own final es → IsAlone slices s own final (entry.Answer a ∷ es)
alone_other slices s own final a es other alone =
    let calls = other_call s a es other in
    record {
      replies = other_reply s a es other ∙ alone.replies ∙ sym (ap (replies_on own) calls);
      same = subst (λ cs. AgreeOn s final (disk_left own cs)) (sym calls) alone.same;
      size = ap (λ cs. length (disk_left own cs)) calls ∙ alone.size;
    }

-- so it is of a whole run
pub is_alone : (slices s : ℕ) → s < slices → (disk own final : List ℕ) (es : List Entry) → Runs slices disk final es
    → length disk ≡ slice_at slices → length own ≡ slice_at slices → AgreeOn s disk own → IsAlone slices s own final es
is_alone slices s low disk own final [] runs size own_size agree = record {
  replies = refl;
  same = subst (λ d. AgreeOn s d own) runs agree;
  size = own_size;
}
is_alone slices s low disk own final (entry.Mark m ∷ es) runs size own_size agree = ⊎_elim
    (λ frame. absurd frame.0)
    (λ control. marked (is_alone slices s low disk own final es control.1 size own_size agree))
    runs
  where
    marked : IsAlone slices s own final es → IsAlone slices s own final (entry.Mark m ∷ es)
    marked alone = record { replies = alone.replies; same = alone.same; size = alone.size }
is_alone slices s low disk own final (entry.Answer a ∷ es) runs size own_size agree = ⊎_elim
    (λ frame.
    let size_on = size_behind a.stream slices disk a.call frame.0.0 frame.0.1 size in
    ⊎_elim
    (λ is. let in_slice : IsFrameIn s a.call = subst (λ n. IsFrameIn n a.call) is frame.0.1 in
    alone_own slices s own final a es is
    (frame.0.2 ∙ same_reply s slices disk own a.call low in_slice size own_size agree)
    (is_alone slices s low (disk_after disk a.call) (disk_after own a.call) final es frame.1 size_on
    (size_behind s slices own a.call low in_slice own_size) (same_after s slices disk own a.call low in_slice size own_size agree)))
    (λ apart. alone_other slices s own final a es apart
    (is_alone slices s low (disk_after disk a.call) own final es frame.1 size_on own_size
    (apart_after a.stream s slices disk own a.call frame.0.0 apart frame.0.1 size agree)))
    (cases_eq a.stream s))
    (λ control. alone_other slices s own final a es (λ is. omega (arith, is, control.0.0, low))
    (is_alone slices s low disk own final es control.1 size own_size agree))
    runs

-- ---- the control stream

-- each of its calls is done
pub all_done : (slices : ℕ) (disk final : List ℕ) (es : List Entry) → Runs slices disk final es
    → replies_in slices es ≡ map (λ c. reply.Done) (calls_in slices es)
all_done slices disk final [] runs = refl
all_done slices disk final (entry.Mark m ∷ es) runs = ⊎_elim (λ frame. absurd frame.0) (λ control. all_done slices disk final es control.1)
    runs
all_done slices disk final (entry.Answer a ∷ es) runs = ⊎_elim
    (λ frame. let other : a.stream ≡ slices → ⊥ = λ is. omega (arith, is, frame.0.0) in
    other_reply slices a es other ∙ all_done slices (disk_after disk a.call) final es frame.1
    ∙ sym (ap (map (λ c. reply.Done)) (other_call slices a es other)))
    (λ control. own_reply slices a es control.0.0
    ∙ joined a.reply reply.Done _ _ control.0.1 (all_done slices disk final es control.1)
    ∙ sym (ap (map (λ c. reply.Done)) (own_call slices a es control.0.0)))
    runs
  where
    joined : (r q : Reply) (rs qs : List Reply) → r ≡ q → rs ≡ qs → r ∷ rs ≡ q ∷ qs
    joined r q rs qs e f = cc
