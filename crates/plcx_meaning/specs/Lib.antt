-- What diagrams and texts are, and what they mean.
pub mod Tree
pub mod Base
pub mod Standard
pub mod Layout
pub mod Run
pub mod Functions
pub mod Diagram
pub mod Evaluate
pub mod Watch
pub mod Execute
-- The text of a diagram; what a project has to fit; and when two sides are the same.
pub mod Templates
pub mod Fits
pub mod Same
pub mod Traces
-- Which texts are ready.
pub mod Typed
pub mod Ready
-- What is said of the definitions alone.
pub mod Turns
pub mod Laws
pub mod Taken
-- Worked examples.
pub mod Pieces
pub mod ExampleRungs
pub mod ExampleFeedback
pub mod ExampleLoops
pub mod ExampleBlocks
pub mod ExampleInOuts
pub mod ExamplePins
pub mod ExampleStarts
pub mod ExampleWatch
pub mod ReadyExamples
