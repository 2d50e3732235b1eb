-- What a worker has, and what holds between its calls.
use Rattle.std.specs.Prelude.{◌≡◌, ℕ, ◌≤◌, List, [], length, map, Option}
use Rattle.outer_traits.specs.declared.ends.Ends.{Ends}
use Rattle.stream_steps.specs.Mine.{Mine}
use Rattle.client_worker.specs.declared.channel.Channel.{Channel}
use Rattle.client_worker.specs.Serving.{IsShown}
use Rattle.client_worker.specs.Asking.{TellsFrame}

-- its steps, and a line to each replica
pub record Work (C L : Type 0) : Type 0 where
  pub steps : C
  pub channels : List (Channel L)

-- how often each line has failed
abbrev pub counts_of : {C L : Type 0} → (L → ℕ) → Work C L → List ℕ
counts_of count w = map (λ c. count c.line) w.channels

-- what each line tells that it carried
abbrev pub told_by : {C L : Type 0} → (L → Option (List (List ℕ))) → Work C L → List (Option (List (List ℕ)))
told_by carried w = map (λ c. carried c.line) w.channels

-- the next step can be taken, there is a line to each replica, and what the lines tell is shown
pub record IsServing {C L : Type 0} (can : C → Type 0) (mine : C → Mine) (count : L → ℕ)
    (carried : L → Option (List (List ℕ))) (w : Work C L) : Type 0 where
  pub ready : can w.steps
  pub few : length w.channels ≤ 8
  pub lines : length w.channels ≡ (mine w.steps).replicas
  pub shown : IsShown (mine w.steps) (counts_of count w) (told_by carried w)

-- the next step can be taken, no call is open, there is a line to each replica, and what the lines tell is shown
pub record IsIdle {C L : Type 0} (can : C → Type 0) (mine : C → Mine) (count : L → ℕ) (carried : L → Option (List (List ℕ)))
    (w : Work C L) : Type 0 where
  pub ready : can w.steps
  pub idle : (mine w.steps).running ≡ []
  pub few : length w.channels ≤ 8
  pub lines : length w.channels ≡ (mine w.steps).replicas
  pub shown : IsShown (mine w.steps) (map (λ c. count c.line) w.channels) (map (λ c. carried c.line) w.channels)

-- the lines are as many, and between the same, in their order
pub record KeepsLines {C L : Type 0} (between : L → Ends) (w w2 : Work C L) : Type 0 where
  pub count : length w2.channels ≡ length w.channels
  pub ends : map (λ c. between c.line) w2.channels ≡ map (λ c. between c.line) w.channels

-- so are these channels, and on each the same exchange was begun last
pub record KeepsChannels {L : Type 0} (between : L → Ends) (cs cs2 : List (Channel L)) : Type 0 where
  pub count : length cs2 ≡ length cs
  pub ends : map (λ c. between c.line) cs2 ≡ map (λ c. between c.line) cs
  pub begun : map (λ c. c.seq) cs2 ≡ map (λ c. c.seq) cs

-- no step was taken, and the line to the replica tells one frame more
pub record Passes {C L : Type 0} (told : L → Option (List (List ℕ))) (r : ℕ) (frame : List ℕ) (w w2 : Work C L)
    : Type 0 where
  pub same : w2.steps ≡ w.steps
  pub carried : TellsFrame (told_by told w) (told_by told w2) r frame

-- what stays over all that it does
pub record Stays {C L H : Type 0} (at : C → H) (between : L → Ends) (w w2 : Work C L) : Type 0 where
  pub home : at w2.steps ≡ at w.steps
  pub lines : KeepsLines between w w2

-- the same over steps alone: no line is touched
pub record StaysHome {C L H : Type 0} (at : C → H) (w w2 : Work C L) : Type 0 where
  pub home : at w2.steps ≡ at w.steps
  pub lines : w2.channels ≡ w.channels
