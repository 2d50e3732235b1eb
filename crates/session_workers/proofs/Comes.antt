-- What comes next, by what a reader gives.
use Rattle.std.proofs.Common.{ℕ, List, [], ◌∷◌, ◌++◌, Option, sym, subst, inl, inr}
use Rattle.std.specs.Io.KnownBytes.{IsAtEnd}
use Rattle.frame_stream.specs.Reading.{Fed, GivesNext}
use Rattle.frame_stream.specs.declared.frame.Frame.{Frame}
use Rattle.frame_stream.specs.declared.reader.Next.TheVariants as next
use Rattle.client_input.specs.Giving.{HasGiven}
use Rattle.client_input.proofs.GivenCalls.{one_more_given}
use Rattle.run_report.specs.declared.session_line.SessionEnd.{SessionEnd}
use Rattle.run_report.specs.declared.session_line.SessionEnd.TheVariants as end
use Rattle.session_workers.specs.declared.coming.Coming.{Coming}
use Rattle.session_workers.specs.declared.coming.Coming.TheVariants as coming
use Rattle.session_workers.specs.Talking.{ComesBehind, IsWhatFrameAsks, IsEndOfInput}

module _ (calls : ℕ) (left now : Option (List ℕ)) (fed : Fed) (fs : List Frame) (h : HasGiven left now fed fs) where
  -- a whole frame
  pub comes_frame : (new : Fed) (f : Frame) (c : Coming) → GivesNext fed new (next.Frame f) → IsWhatFrameAsks calls f c
      → ComesBehind calls left now new fs c
  comes_frame new f (coming.Call g) given (is, no_close, more) =
      (more, subst (λ (x : Frame). HasGiven left now new (fs ++ x ∷ [])) (sym is) (one_more_given left now fed new fs f h given no_close))
  comes_frame new f (coming.End end.Closed) given close = (fed, h, (new, f, given, close))
  comes_frame new f (coming.End end.Ended) given is = absurd is
  comes_frame new f (coming.End (end.Frame place)) given is = absurd is
  comes_frame new f (coming.End end.Full) given (no_close, full) = (fed, h, (full, (new, f, given, no_close)))
  comes_frame new f (coming.End end.ReadFault) given is = absurd is
  comes_frame new f (coming.End end.WriteFault) given is = absurd is

  -- no frame
  pub comes_bad : (new any : Fed) (place : ℕ) → GivesNext fed new (next.Bad place)
      → ComesBehind calls left now any fs (coming.End (end.Frame place))
  comes_bad new any place bad = (fed, h, inl (new, bad))

  -- the end of the input, where what is left is short
  pub comes_end : (new any : Fed) (e : SessionEnd) → GivesNext fed new next.Short → IsAtEnd now → IsEndOfInput fed e
      → ComesBehind calls left now any fs (coming.End e)
  comes_end new any end.Closed short over is = absurd is
  comes_end new any end.Ended short over none = (fed, h, (none, over))
  comes_end new any (end.Frame place) short over (is, some) = (fed, h, inr (is, some, (new, short), over))
  comes_end new any end.Full short over is = absurd is
  comes_end new any end.ReadFault short over is = absurd is
  comes_end new any end.WriteFault short over is = absurd is

  -- a fault of the source
  pub comes_fault : (new any : Fed) → GivesNext fed new next.Short → ComesBehind calls left now any fs (coming.End end.ReadFault)
  comes_fault new any short = (fed, h, (new, short))
