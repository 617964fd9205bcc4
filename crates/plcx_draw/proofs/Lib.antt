pub mod PinLaws
pub mod FeedbackLaws
pub mod SheetLaws
pub mod BlockLaws
pub mod ElementLaws
pub mod PouLaws
