pub mod TypingExamples
