-- Which calls of a client's input a reader of frames gave so far.
use Rattle.std.specs.Prelude.{◌≡◌, ℕ, ◌+◌, ◌%◌, ◌^◌, ◌<◌, List, ◌++◌, length, All, Option}
use Rattle.std.specs.Io.KnownBytes.{Consumes}
use Rattle.frame_stream.specs.Frames.{spellings, IsCall}
use Rattle.frame_stream.specs.Reading.{Fed}
use Rattle.frame_stream.specs.declared.frame.Frame.{Frame}
use Rattle.volume_model.specs.PlainStep.{longest_call}

-- These calls stood first of what a reader was fed, and it gave them. It has what stands behind them.
pub record GivesCalls (fed at : Fed) (frames : List Frame) : Type 0 where
  pub calls : All IsCall frames
  pub bytes : fed.left ≡ spellings frames ++ at.left
  pub place : at.place % 2 ^ 64 ≡ (fed.place + length (spellings frames)) % 2 ^ 64
  pub fits : fed.place < 2 ^ 64 → at.place < 2 ^ 64
  pub most : at.most ≡ fed.most

-- The source gave these calls' frames and what the reader has left: the calls are given, and the reader stands behind them.
pub record HasGiven (left0 left1 : Option (List ℕ)) (fed : Fed) (frames : List Frame) : Type 0 where
  pub calls : All IsCall frames
  pub given : Consumes left0 left1 (spellings frames ++ fed.left)
  pub place : fed.place ≡ length (spellings frames) % 2 ^ 64
  pub most : fed.most ≡ longest_call
