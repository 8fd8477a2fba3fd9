pub mod ConsoleTable
