pub mod FirstFrame
pub mod OneWay
pub mod GivenCalls
pub mod InputEnds
