mod Words
mod Fields
mod CallTells
mod ReplyTells
mod MarkTells
mod Begins
mod JournalTells
mod OpeningTells
mod ReportTells
mod SessionTells
pub mod Knowing
