pub mod CellIntegrals
pub mod CellLines
pub mod CellSums
pub mod CornerNumbers
pub mod CornerPoints
pub mod CornersBelow
pub mod Fitting
pub mod IndexSteps
pub mod InOrder
pub mod Kept
pub mod Maps
pub mod Pieces
pub mod Products
pub mod RowAnswers
mod SignedProducts
mod SignedSums
mod CellProducts
mod LineMoments
mod WholeGrid
