mod Told
mod SetAnew
mod Brought
