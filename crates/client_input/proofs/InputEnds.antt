-- What an input is, by what a reader gave of it.
use Rattle.std.proofs.Common.{◌≡◌, ◌≢◌, ◌∙◌, ℕ, List, [], ◌++◌, Option, None, Some, IfSome}
use Rattle.std.proofs.Common.{refl, sym, ap, subst, append_assoc, append-nil, inl, inr}
use Rattle.std.specs.Io.KnownBytes.{Consumes, IsAtEnd}
use Rattle.frame_stream.proofs.ReadingLaws.{bad_stays}
use Rattle.frame_stream.specs.Frames.{spellings, IsClose, BeginWithCalls, HasNoFrame}
use Rattle.frame_stream.specs.Reading.{Fed, GivesNext}
use Rattle.frame_stream.specs.declared.frame.Frame.{Frame}
use Rattle.frame_stream.specs.declared.reader.Next.TheVariants as next
use Rattle.client_input.specs.Giving.{HasGiven}
use Rattle.client_input.specs.Inputs.{IsCalls, IsCutOff}
use Rattle.client_input.proofs.FirstFrame.{bad_goes_on, bad_no_frame, given_close, short_no_frame}

-- The input that a source had, of which these bytes came, and what did not come yet: as it tells, where it tells them.
pub record HadInput (left now : Option (List ℕ)) (bytes : List ℕ) : Type 0 where
  pub input : List ℕ
  pub rest : List ℕ
  pub had : IfSome left (λ told. told ≡ input)
  pub is : input ≡ bytes ++ rest
  pub has : IfSome now (λ told. told ≡ rest)
  pub last : IsAtEnd now → rest ≡ []

pub had_input : (left now : Option (List ℕ)) (bytes : List ℕ) → Consumes left now bytes → HadInput left now bytes
had_input None None bytes came =
    record { input = bytes; rest = []; had = tt; is = sym (append-nil bytes); has = tt; last = λ e. refl }
had_input None (Some ys) bytes came = record { input = bytes ++ ys; rest = ys; had = tt; is = refl; has = refl; last = λ e. e }
had_input (Some xs) None bytes came = absurd came
had_input (Some xs) (Some ys) bytes came = record { input = xs; rest = ys; had = refl; is = came; has = refl; last = λ e. e }

module _ (left came : Option (List ℕ)) (fed : Fed) (fs : List Frame) (g : HasGiven left came fed fs) where
  -- the input of which calls were given
  abbrev pub input_of : HadInput left came (spellings fs ++ fed.left)
  input_of = had_input left came (spellings fs ++ fed.left) g.given

  -- what stands in it behind them
  abbrev pub behind : List ℕ
  behind = fed.left ++ input_of.rest

  -- it begins with them
  pub begins : BeginWithCalls input_of.input fs behind
  begins = record { calls = g.calls; text = input_of.is ∙ append_assoc (spellings fs) fed.left input_of.rest }

  -- where it is at its end, nothing stands behind what the reader has
  pub at_end : IsAtEnd came → behind ≡ fed.left
  at_end over = ap (λ l. fed.left ++ l) (input_of.last over) ∙ append-nil fed.left

  -- all of it is given
  pub ends_whole : fed.left ≡ [] → IsAtEnd came → IsCalls input_of.input fs
  ends_whole none over = (behind, begins, inl (at_end over ∙ none))

  -- a Close is
  pub ends_closed : (new : Fed) (f : Frame) → GivesNext fed new (next.Frame f) → IsClose f → IsCalls input_of.input fs
  ends_closed new f given close = (behind, begins, inr (given_close fed new f input_of.rest g.most given close))

  -- what stands behind is bad
  pub ends_bad : (new : Fed) (place : ℕ) → GivesNext fed new (next.Bad place) → IsCutOff input_of.input fs place
  ends_bad new place bad = (
    behind,
    begins,
    bad_no_frame fed new place input_of.rest g.most bad,
    bad_goes_on fed new place input_of.rest bad,
    (bad_stays fed new place bad).1 ∙ g.place,
  )

  -- the input ends within a frame
  pub ends_short : (new : Fed) (place : ℕ) → place ≡ fed.place → GivesNext fed new next.Short → fed.left ≢ [] → IsAtEnd came
      → IsCutOff input_of.input fs place
  ends_short new place is short some over =
      let rest = at_end over in (
        behind,
        begins,
        subst HasNoFrame (sym rest) (short_no_frame fed new g.most short),
        λ none. some (sym rest ∙ none),
        is ∙ g.place,
      )
