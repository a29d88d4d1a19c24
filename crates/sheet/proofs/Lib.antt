mod Growth
mod OneEach
mod PassedOver
mod Pieces
mod Worked
