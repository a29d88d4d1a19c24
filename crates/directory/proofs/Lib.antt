mod Changing
mod First
mod Removing
