mod Integers
mod LineBounds
mod RoundTrip
mod Rounding
mod SoundRows
