pub mod TextRuns
