-- The calls that a reader gives, one after another.
use Rattle.std.proofs.Common.{◌≡◌, ◌∙◌, ℕ, ◌+◌, ◌%◌, ◌^◌, List, [], ◌∷◌, ◌++◌, length, Option, refl, sym, ap, subst, arith}
use Rattle.std.proofs.Common.{append_assoc, append-nil, length-append}
use Rattle.std.proofs.KnownBytes.{Consumes-kept, Consumes-nil, Consumes-trans}
use Rattle.std.proofs.lemmas.Grind.{flat_map-append}
use Rattle.std.proofs.lemmas.List.Elements.{All-nil, All-cons, All-append}
use Rattle.std.specs.Io.KnownBytes.{Consumes, Keeps}
use Rattle.frame_stream.proofs.ReadingLaws.{given_stands}
use Rattle.frame_stream.specs.Frames.{spelled, spellings, IsCall, IsClose}
use Rattle.frame_stream.specs.Reading.{Fed, GivesNext}
use Rattle.frame_stream.specs.declared.frame.Frame.{Frame}
use Rattle.frame_stream.specs.declared.reader.Next.TheVariants as next
use Rattle.volume_model.specs.PlainStep.{longest_call}
use Rattle.client_input.specs.Feeding.{FeedsMore}
use Rattle.client_input.specs.Giving.{GivesCalls, HasGiven}
use Rattle.client_input.specs.declared.feeding.Input.{Input}
use Rattle.client_input.specs.declared.feeding.Input.TheVariants as input
use Rattle.client_input.proofs.FirstFrame.{given_call}

-- ---- of what was fed

-- no call is given yet
pub none_yet : (fed : Fed) → GivesCalls fed fed []
none_yet fed = record {
  calls = All-nil IsCall;
  bytes = refl;
  place = ap (λ n. n % 2 ^ 64) (omega arith);
  fits = λ below. below;
  most = refl;
}

-- the bytes of calls and one more
spellings-more : (fs : List Frame) (f : Frame) → spellings (fs ++ f ∷ []) ≡ spellings fs ++ spelled f
spellings-more fs f = flat_map-append spelled fs (f ∷ []) ∙ ap (λ l. spellings fs ++ l) (append-nil (spelled f))

-- places that are counted modulo 2^64
place_more : (at start done step : ℕ) → at % 2 ^ 64 ≡ (start + done) % 2 ^ 64
    → (at + step) % 2 ^ 64 % 2 ^ 64 ≡ (start + (done + step)) % 2 ^ 64
place_more at start done step so_far = omega (arith, so_far)

-- one call more is given
pub one_more : (fed at new : Fed) (fs : List Frame) (f : Frame) → GivesCalls fed at fs → fed.most ≡ longest_call
    → GivesNext at new (next.Frame f) → (IsClose f → ⊥) → GivesCalls fed new (fs ++ f ∷ [])
one_more fed at new fs f g most given no_close =
    let stands = given_stands at new f given in
    let bytes = spellings-more fs f in
    record {
      calls = All-append IsCall fs (f ∷ []) g.calls
          (All-cons IsCall f [] (given_call at new f (g.most ∙ most) given no_close) (All-nil IsCall));
      bytes = g.bytes ∙ ap (λ l. spellings fs ++ l) stands.bytes ∙ sym (append_assoc (spellings fs) (spelled f) new.left)
          ∙ ap (λ l. l ++ new.left) (sym bytes);
      place = ap (λ n. n % 2 ^ 64) stands.place ∙ place_more at.place fed.place (length (spellings fs)) (length (spelled f)) g.place
          ∙ ap (λ n. (fed.place + n) % 2 ^ 64) (sym (ap length bytes ∙ length-append (spellings fs) (spelled f)));
      fits = λ below. omega (arith, stands.place);
      most = stands.most ∙ g.most;
    }

-- ---- of what the source had

-- a new reader gave no call
pub nothing_given : (left : Option (List ℕ)) (fed : Fed) → fed ≡ record { left = []; place = 0; most = longest_call }
    → HasGiven left left fed []
nothing_given left fed new = record {
  calls = All-nil IsCall;
  given = subst (Consumes left left) (sym (ap (λ (f : Fed). f.left) new)) (Consumes-nil left);
  place = ap (λ (f : Fed). f.place) new;
  most = ap (λ (f : Fed). f.most) new;
}

-- more calls are given
pub more_given : (left came : Option (List ℕ)) (fed at : Fed) (fs gs : List Frame) → HasGiven left came fed fs → GivesCalls fed at gs
    → HasGiven left came at (fs ++ gs)
more_given left came fed at fs gs h more =
    let bytes : spellings fs ++ fed.left ≡ spellings (fs ++ gs) ++ at.left =
    ap (λ l. spellings fs ++ l) more.bytes ∙ sym (append_assoc (spellings fs) (spellings gs) at.left)
    ∙ ap (λ l. l ++ at.left) (sym (flat_map-append spelled fs gs)) in
    let long : length (spellings (fs ++ gs)) ≡ length (spellings fs) + length (spellings gs) =
    ap length (flat_map-append spelled fs gs) ∙ length-append (spellings fs) (spellings gs) in
    record {
      calls = All-append IsCall fs gs h.calls more.calls;
      given = subst (Consumes left came) bytes h.given;
      place = omega (arith, h.place, more.place, more.fits (omega (arith, h.place)), long);
      most = more.most ∙ h.most;
    }

-- or one more
pub one_more_given : (left came : Option (List ℕ)) (fed new : Fed) (fs : List Frame) (f : Frame) → HasGiven left came fed fs
    → GivesNext fed new (next.Frame f) → (IsClose f → ⊥) → HasGiven left came new (fs ++ f ∷ [])
one_more_given left came fed new fs f h given no_close =
    more_given left came fed new fs (f ∷ []) h (one_more fed fed new [] f (none_yet fed) h.most given no_close)

-- more is fed, or nothing more comes
pub fed_on : (left came last : Option (List ℕ)) (fed new : Fed) (fs : List Frame) (i : Input) → HasGiven left came fed fs
    → FeedsMore came last fed new i → HasGiven left last new fs
fed_on left came last fed new fs input.More h (bytes, some, more, is) = subst (λ (f : Fed). HasGiven left last f fs) (sym is) (record {
  calls = h.calls;
  given = subst (Consumes left last) (append_assoc (spellings fs) fed.left bytes)
      (Consumes-trans left came last (spellings fs ++ fed.left) bytes h.given more);
  place = h.place;
  most = h.most;
})
fed_on left came last fed new fs input.End h (none, over, is) = subst (λ (f : Fed). HasGiven left last f fs) (sym is) (record {
  calls = h.calls;
  given = subst (Consumes left last) (append-nil (spellings fs ++ fed.left))
      (Consumes-trans left came last (spellings fs ++ fed.left) [] h.given none);
  place = h.place;
  most = h.most;
})

-- the source failed, and takes nothing
pub kept_given : (left came last : Option (List ℕ)) (fed : Fed) (fs : List Frame) → HasGiven left came fed fs → Keeps came last
    → HasGiven left last fed fs
kept_given left came last fed fs h keeps = record {
  calls = h.calls;
  given = Consumes-kept left came last (spellings fs ++ fed.left) h.given keeps;
  place = h.place;
  most = h.most;
}
