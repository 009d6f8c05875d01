pub mod search
pub mod currency_code
pub mod tables
pub mod locales
