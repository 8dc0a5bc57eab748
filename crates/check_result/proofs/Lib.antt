mod Below
mod FaultLines
mod Walked
