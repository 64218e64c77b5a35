mod Determined
mod LastOf
mod Reported
mod Replays
mod Rests
mod RunNames
mod Wakes
