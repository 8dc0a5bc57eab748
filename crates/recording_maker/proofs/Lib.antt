mod Begins
mod Making
mod Outcomes
mod Shown
