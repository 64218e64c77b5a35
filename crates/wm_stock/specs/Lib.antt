pub mod AnyStocks
