mod DigestLemmas
mod HalfDigits
