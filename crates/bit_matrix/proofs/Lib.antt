pub mod ExchangeLaws
pub mod TransposeLaws
