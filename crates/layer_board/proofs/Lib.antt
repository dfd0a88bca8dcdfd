pub mod Words
pub mod Rule
pub mod SeatSteps
pub mod ClosedBoards
pub mod BoardEvents
