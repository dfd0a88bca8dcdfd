mod Parity
