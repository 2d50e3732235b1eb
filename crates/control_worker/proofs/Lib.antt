pub mod OwnAnswers
pub mod Goes
pub mod ShownLemmas
pub mod CarrierLemmas
pub mod PartLemmas
pub mod FrameLemmas
pub mod AnswerLemmas
pub mod CommandLemmas
pub mod PurgeLemmas
pub mod RoundLemmas
pub mod InTurn
mod AddLemmas
mod BarrierLemmas
mod CopierLemmas
pub mod GiverLemmas
pub mod BackupLemmas
pub mod StoreLemmas
pub mod TurnLemmas
