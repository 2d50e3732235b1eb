-- Replies to calls, one after another.
use Rattle.std.proofs.Common.{◌≡◌, ◌∙◌, ℕ, List, [], ◌∷◌, ◌++◌, length, map, sym, ap, arith, append_assoc, append-nil}
use Rattle.std.proofs.lemmas.List.{map-append, length-map}
use Rattle.volume_model.specs.declared.entry.Answer.{Answer}
use Rattle.volume_model.specs.declared.entry.Entry.{Entry}
use Rattle.volume_model.specs.History.{answers_of, calls_of}
use Rattle.frame_stream.specs.Asked.{call_of}
use Rattle.frame_stream.specs.Replies.{reply_frame}
use Rattle.frame_stream.specs.declared.frame.Frame.{Frame}
use Rattle.run_report.specs.Summary.{replying_frame, replying_frames}
use Rattle.session_workers.specs.Clients.{replies_in}
use Rattle.session_workers.specs.Talking.{HasOneMore}

-- one reply more, where each frame before has its answer
replying-more : (fs : List Frame) (xs : List (ℕ × Answer)) (f : Frame) (x : ℕ × Answer) → length xs ≡ length fs
    → replying_frames (map (λ (g : Frame). g.head) (fs ++ f ∷ [])) (xs ++ x ∷ [])
    ≡ replying_frames (map (λ (g : Frame). g.head) fs) xs ++ replying_frame f.head x.1
replying-more [] [] f x e = append-nil (replying_frame f.head x.1)
replying-more [] (y ∷ ys) f x e = absurd (omega (arith, e))
replying-more (g ∷ gs) [] f x e = absurd (omega (arith, e))
replying-more (g ∷ gs) (y ∷ ys) f x e =
    ap (λ l. replying_frame g.head y.1 ++ l) (replying-more gs ys f x (omega (arith, e)))
    ∙ sym (append_assoc (replying_frame g.head y.1) (replying_frames (map (λ (h : Frame). h.head) gs) ys) (replying_frame f.head x.1))

module _ (n : ℕ) (old new : List Entry) (fs : List Frame) (f : Frame) (a : Answer) (asked : calls_of n old ≡ map call_of fs)
    (one : HasOneMore n f old new a) where
  as_many : length (answers_of n old) ≡ length fs
  as_many =
      sym (length-map (answers_of n old) (λ (p : ℕ × Answer). p.1.call)) ∙ ap length asked ∙ length-map fs call_of

  pub asked_more : calls_of n new ≡ map call_of (fs ++ f ∷ [])
  asked_more =
      ap (map (λ (p : ℕ × Answer). p.1.call)) one.answers
      ∙ map-append (λ (p : ℕ × Answer). p.1.call) (answers_of n old) ((one.place, a) ∷ [])
      ∙ ap (λ l. l ++ a.call ∷ []) asked ∙ ap (λ c. map call_of fs ++ c ∷ []) one.call
      ∙ sym (map-append call_of fs (f ∷ []))

  pub replies_more : replies_in n (fs ++ f ∷ []) new ≡ replies_in n fs old ++ reply_frame f.head a.call a.reply
  replies_more =
      ap (replying_frames (map (λ (g : Frame). g.head) (fs ++ f ∷ []))) one.answers
      ∙ replying-more fs (answers_of n old) f (one.place, a) as_many

-- replies stay where no call was made
pub replies_stay : (n : ℕ) (old new : List Entry) (fs : List Frame) → answers_of n new ≡ answers_of n old
    → replies_in n fs new ≡ replies_in n fs old
replies_stay n old new fs same = ap (replying_frames (map (λ (g : Frame). g.head) fs)) same

pub asked_stay : (n : ℕ) (old new : List Entry) → answers_of n new ≡ answers_of n old → calls_of n new ≡ calls_of n old
asked_stay n old new same = ap (map (λ (p : ℕ × Answer). p.1.call)) same
