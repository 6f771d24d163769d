pub mod Written
pub mod AnswerKeys
