pub mod Moves
pub mod Printing
pub mod Comments
pub mod RowsOf
pub mod ByKind
pub mod After
pub mod KeywordLines
pub mod Ties
pub mod Standing
pub mod KeywordTaken
pub mod RowTaken
pub mod Refusals
pub mod RowLines
pub mod FirstFaults
pub mod LookedAt
mod Cuts
mod Overlong
mod Settled
mod Causes
mod StepLaws
mod Feeding
mod PieceLaws
mod EndLaws
mod ReadLaws
mod WiderLimits
mod KeywordTexts
mod PrintedRows
mod PrintedLists
mod PrintedSteps
mod ReadBack
mod GivenNames
mod Readable
mod WithFlush
mod Putting
mod Runs
mod Finds
pub mod Marks
