-- What a worker's loop leaves at a desk, for the seat that it was lent.
use Rattle.std.proofs.Common.{◌≡◌, ℕ, false, true, List, [], map, Option, Result, Ok, OnOk, subst}
use Rattle.std.proofs.Common.{Err as Failed}
use Rattle.std.specs.Prelude.{is_ok}
use Rattle.volume_model.specs.declared.command.Command.{Command}
use Rattle.volume_model.specs.declared.call.Call.{Call}
use Rattle.volume_model.specs.declared.call.Call.TheVariants as call
use Rattle.desk_lock.specs.declared.seats.Seat.{Seat}
use Rattle.desk_lock.specs.Seats.{last_of}
use Rattle.world_holder.specs.declared.kept.WorldOnDesk.{WorldOnDesk}
use Rattle.world_holder.specs.Laid.{laid}
use Rattle.volume_core.specs.State.{State, gave_up_at}
use Rattle.volume_core.specs.Streams.{turning}
use Rattle.client_worker.specs.Exchanges.{told_in}
use Rattle.client_worker.specs.Serving.{IsShown, Grew}
use Rattle.world_holder.specs.View.{view, IsFree}
use Rattle.control_worker.specs.Serving.{Commanded}
use Rattle.std.specs.Prelude.{slice_index_or}
use Rattle.stream_workers.specs.Ended.{HasEnded}
use Rattle.stream_workers.proofs.Ends.{frames_ended, commands_ended}

pub ok_of : {A E P : Type 0} (res : Result A E) → OnOk res P → is_ok res ≡ true → P
ok_of (Ok a) h e = h
ok_of (Failed x) h e = absurd (let f : false ≡ true = e in cc)

-- Of a worker that was lent a seat of the stream n, and gave back this one, of the stream that it had.
module _ {A E : Type 0} (n n2 : ℕ) (s : State) (t : Seat WorldOnDesk) (same : n2 ≡ n)
    (res : Result A E) (is : is_ok res ≡ true)
    (counts : List ℕ) (told : List (Option (List (List ℕ)))) where
  pub frames_at : (cs : List Call) → IsFree n2 (laid (last_of t)) → (view false n s).entries ≡ []
      → IsShown (view false n2 (laid (last_of t))) counts told
      → OnOk res (Grew cs (view false n s) (view false n2 (laid (last_of t))))
      → HasEnded n cs (λ r. slice_index_or counts r 0) (told_in told) (laid (last_of t))
  frames_at cs free none shown grew =
      frames_ended n s (laid (last_of t)) counts told
      (subst (λ k. gave_up_at (laid (last_of t)).gave_up k ≡ false) same free.gave_up) cs
      (subst (λ k. turning (laid (last_of t)) k ≡ []) same free.turns) none
      (subst (λ k. IsShown (view false k (laid (last_of t))) counts told) same shown)
      (ok_of res (subst (λ k. OnOk res (Grew cs (view false n s) (view false k (laid (last_of t))))) same grew) is)

  pub commands_at : (cs : List Command) → gave_up_at (laid (last_of t)).gave_up n2 ≡ false
      → (view false n s).entries ≡ [] → IsShown (view false n2 (laid (last_of t))) counts told
      → OnOk res (Commanded cs (view false n s) (view false n2 (laid (last_of t))))
      → HasEnded n (map call.Command cs) (λ r. slice_index_or counts r 0) (told_in told) (laid (last_of t))
  commands_at cs gave_up none shown grew =
      commands_ended n s (laid (last_of t)) counts told
      (subst (λ k. gave_up_at (laid (last_of t)).gave_up k ≡ false) same gave_up) cs none
      (subst (λ k. IsShown (view false k (laid (last_of t))) counts told) same shown)
      (ok_of res (subst (λ k. OnOk res (Commanded cs (view false n s) (view false k (laid (last_of t))))) same grew) is)
