pub mod Rules
mod SetAnew
mod Parcels
mod Taking
mod UnderWay
pub mod Nets
