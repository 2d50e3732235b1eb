-- What a book tells a desk.
use Rattle.std.specs.Prelude.{ℕ, ◌<◌, ◌^◌, List, [], ◌∷◌, length, Option, Some, None, slice_index_or}
use Rattle.desk_lock.specs.Account.{Account, entries_of}
use Rattle.desk_trial.specs.declared.book.Book.{Book}
use Rattle.desk_trial.specs.declared.book.Note.{Note}

-- the note of a call
abbrev pub note_of : ℕ → ℕ → Note
note_of stream value = record { stream = stream; value = value }

-- the call that a stream has begun
abbrev pub call_at : List (Option ℕ) → ℕ → Option ℕ
call_at calls stream = slice_index_or calls stream None

-- at most one
abbrev pub calls_in : Option ℕ → List ℕ
calls_in None = []
calls_in (Some value) = value ∷ []

-- its journal are its notes, each of one stream; a call that was begun counts on nothing more than that it stays
abbrev pub book_account : Account Book Note ℕ ℕ
book_account = record {
  journal = λ b. b.notes.items;
  stream_of = λ note. Some note.stream;
  streams = λ b. length b.begun.items;
  running = λ b stream. calls_in (call_at b.begun.items stream);
  origin = λ b. length b.begun.items;
  sound = λ b. length b.notes.items < 2 ^ 64;
  counts_on = λ value x y. Unit {0};
  counts_same = λ value x. tt;
  counts_later = λ value x y z a b. tt;
}

-- the notes of a stream, in order
abbrev pub notes_in : ℕ → Book → List Note
notes_in stream b = entries_of book_account stream b.notes.items

-- how many streams it has
abbrev pub streams_of : Book → ℕ
streams_of b = length b.begun.items

-- the call that a stream has begun
abbrev pub call_of : Book → ℕ → Option ℕ
call_of b stream = call_at b.begun.items stream
